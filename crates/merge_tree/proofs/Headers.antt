-- What is read of a header, and the fault that tells of its flaw.
use Rattle.std.proofs.Common.{◌≡◌, ℕ, ◌<◌, ◌≤◌, nat_eq, true, false, List, length, take, min, Option, Some, None, IfSome, refl, sym, ap, ◌∙◌, subst, arith, inl, inr, length-take}
use Rattle.std.specs.List.{starts_with}
use Rattle.std.proofs.lemmas.Bool.{cases_lt}
use Rattle.std.proofs.lemmas.List.{take_min, take_all}
use Rattle.std.specs.Option.{option_map}
use Rattle.std.proofs.lemmas.Option.{none-some}
use Rattle.agglo_model.specs.Axes.{Axes, axes_flaw, voxel_count}
use Rattle.agglo_model.specs.MergeTree.{tree_magic}
use Rattle.agglo_model.specs.VolumeFile.{header_length, header_axes, u32_at}
use Rattle.agglo_model.specs.TreeFile.{TreeFlaw, ShortHeader as FlawShort, Magic as FlawMagic, BadAxes as FlawAxes, Denominator as FlawDenominator, Count as FlawCount, Truncated as FlawTruncated, Trailing as FlawTrailing, BadNames as FlawNames, BadContact as FlawContact, Order as FlawOrder, Below as FlawBelow, header, header_threshold, header_flaw}
use Rattle.agglo_model.proofs.HeaderFlaws.{short_flaw, magic_flaw, bad_axes, denominator_flaw, count_flaw, no_header_flaw}
use Rattle.seg_base.specs.declared.dims.DimFault.{DimFault}
use Rattle.seg_base.specs.declared.dims.DimFault.TheVariants.{AxisZero, AxisLarge, TooMany}
use Rattle.seg_base.specs.Flaw.{flaw_of}
use Rattle.seg_io.specs.Desk.{DeskState, Fills}
use Rattle.merge_tree.specs.declared.tree_records.Head.{Head}
use Rattle.merge_tree.specs.declared.tree_fault.TreeFault.{TreeFault}
use Rattle.merge_tree.specs.declared.tree_fault.TreeFault.TheVariants.{ShortHeader, Magic, Dims, Denominator, Count, Read}
use Rattle.merge_tree.specs.TreeFault.{fault_of, axes_fault}
use Rattle.merge_tree.specs.TreeReading.{Tells}
use Rattle.merge_tree.specs.TreeHead.{SaysHead, ReadsHead, FindsBadHead, FailsToReadHead}
use Rattle.seg_io.proofs.InputStates.{taken-min}

-- the axes that were read
pub axes_read : (bytes : List ℕ) (nx ny nz : ℕ) → nx ≡ u32_at 8 bytes → ny ≡ u32_at 12 bytes → nz ≡ u32_at 16 bytes
    → record { nx = nx; ny = ny; nz = nz } ≡ header_axes bytes
axes_read bytes nx ny nz p q r = λ i. record { nx = p i; ny = q i; nz = r i }

-- the threshold that was read
pub threshold_read : (bytes : List ℕ) (n d : ℕ) → n ≡ u32_at 20 bytes → d ≡ u32_at 24 bytes
    → record { p = n; q = d } ≡ header_threshold bytes
threshold_read bytes n d e f = λ i. record { p = e i; q = f i }

-- a fault tells of its own flaw
same_fault : (fault : DimFault) → axes_fault (flaw_of fault) ≡ fault
same_fault (AxisZero axis) = refl
same_fault (AxisLarge axis) = refl
same_fault TooMany = refl

pub tells_short : (bytes : List ℕ) → length bytes < header_length → Tells (ShortHeader (length bytes)) (header_flaw bytes)
tells_short bytes p = ap (option_map fault_of) (short_flaw bytes p)

pub tells_magic : (bytes : List ℕ) → header_length ≤ length bytes → starts_with nat_eq bytes tree_magic ≡ false → Tells Magic (header_flaw bytes)
tells_magic bytes p q = ap (option_map fault_of) (magic_flaw bytes p q)

pub tells_axes : (bytes : List ℕ) (axes : Axes) (fault : DimFault) → header_length ≤ length bytes → starts_with nat_eq bytes tree_magic ≡ true
    → axes ≡ header_axes bytes → axes_flaw axes ≡ Some (flaw_of fault) → Tells (Dims fault) (header_flaw bytes)
tells_axes bytes axes fault p q e r =
    ap (option_map fault_of) (bad_axes bytes (flaw_of fault) p q (ap axes_flaw (sym e) ∙ r)) ∙ ap (λ (f : DimFault). Some (Dims f)) (same_fault fault)

pub tells_denominator : (bytes : List ℕ) (axes : Axes) (n : ℕ) → header_length ≤ length bytes → starts_with nat_eq bytes tree_magic ≡ true
    → axes ≡ header_axes bytes → axes_flaw axes ≡ None → n ≡ u32_at 24 bytes → n ≡ 0 → Tells Denominator (header_flaw bytes)
tells_denominator bytes axes n p q e r at zero =
    ap (option_map fault_of) (denominator_flaw bytes p q (ap axes_flaw (sym e) ∙ r) (sym at ∙ zero))

pub tells_count : (bytes : List ℕ) (axes : Axes) (n merges : ℕ) → header_length ≤ length bytes → starts_with nat_eq bytes tree_magic ≡ true
    → axes ≡ header_axes bytes → axes_flaw axes ≡ None → n ≡ u32_at 24 bytes → 0 < n → merges ≡ u32_at 28 bytes → voxel_count axes ≤ merges
    → Tells (Count merges) (header_flaw bytes)
tells_count bytes axes n merges p q e r at some is many =
    ap (option_map fault_of) (count_flaw bytes p q (ap axes_flaw (sym e) ∙ r) (subst (λ x. 0 < x) at some)
    (subst (λ (a : Axes). voxel_count a ≤ u32_at 28 bytes) e (subst (λ x. voxel_count axes ≤ x) is many)))
    ∙ ap (λ x. Some (Count x)) (sym is)

pub header_sound : (bytes : List ℕ) (axes : Axes) (n merges : ℕ) → header_length ≤ length bytes → starts_with nat_eq bytes tree_magic ≡ true
    → axes ≡ header_axes bytes → axes_flaw axes ≡ None → n ≡ u32_at 24 bytes → 0 < n → merges ≡ u32_at 28 bytes → merges < voxel_count axes
    → header_flaw bytes ≡ None
header_sound bytes axes n merges p q e r at some is few =
    no_header_flaw bytes p q (ap axes_flaw (sym e) ∙ r) (subst (λ x. 0 < x) at some)
    (subst (λ (a : Axes). u32_at 28 bytes < voxel_count a) e (subst (λ x. x < voxel_count axes) is few))

-- no flaw is told as a fault of the input or as want of memory
never_read : (flaw : TreeFlaw) → ¬ (fault_of flaw ≡ Read)
never_read (FlawShort got) e = cc
never_read FlawMagic e = cc
never_read (FlawAxes flaw) e = cc
never_read FlawDenominator e = cc
never_read (FlawCount merges) e = cc
never_read (FlawTruncated got) e = cc
never_read FlawTrailing e = cc
never_read (FlawNames i) e = cc
never_read (FlawContact i) e = cc
never_read (FlawOrder i) e = cc
never_read (FlawBelow i) e = cc

pub never_tells_read : (o : Option TreeFlaw) → ¬ (Tells Read o)
never_tells_read None e = cc
never_tells_read (Some flaw) e = never_read flaw (some_same (fault_of flaw) Read e)
  where
    some_same : (x y : TreeFault) → Some x ≡ Some y → x ≡ y
    some_same x y e = cc

-- what is said of the bytes that a buffer was filled with is said of the header
header_of : (o : Option (List ℕ)) (k : ℕ) (filled : List ℕ) (P : List ℕ → Type 0) → IfSome o (λ bytes. take k filled ≡ take k bytes)
    → IfSome o (λ bytes. k ≡ min header_length (length bytes)) → P (take k filled) → IfSome o (λ bytes. P (header bytes))
header_of None k filled P front all p = tt
header_of (Some bytes) k filled P front all p =
    subst P (front ∙ (ap (λ (n : ℕ). take n bytes) all ∙ take_min header_length bytes)) p

sound_is_long : (bytes : List ℕ) → header_flaw bytes ≡ None → header_length ≤ length bytes
sound_is_long bytes sound = elim (cases_lt (length bytes) header_length) [
  | inl short ↦ absurd (none-some (FlawShort (length bytes)) (sym sound ∙ short_flaw bytes short))
  | inr long ↦ long
]

-- a sound header was read
pub reads_head : (k : ℕ) (buffer filled : List ℕ) (head : Head) (old new : DeskState) → length buffer ≡ header_length
    → Fills k buffer filled old new → header_flaw (take k filled) ≡ None → SaysHead head (take k filled) → ReadsHead head old new
reads_head k buffer filled head old new room fills sound says =
    let all : IfSome old.input (λ bytes. k ≡ min header_length (length bytes)) =
    subst (λ (n : ℕ). IfSome old.input (λ bytes. k ≡ min n (length bytes))) room fills.all in
    record {
      header_is = record {
        bytes = take k filled;
        fit = fills.fit;
        holds = record {
          long = omega (arith, fills.room, room, length-take k filled, sound_is_long (take k filled) sound);
          sound = sound;
          says = says;
        };
      };
      sound = header_of old.input k filled (λ bytes. header_flaw bytes ≡ None) fills.front all sound;
      says = header_of old.input k filled (λ bytes. SaysHead head bytes) fills.front all says;
      after = fills.after ∙ taken-min old header_length k all;
    }

bad_head : (fault : TreeFault) (o : Option TreeFlaw) (old new : DeskState) → Tells fault o → FindsBadHead fault old new
    → FailsToReadHead fault old new
bad_head Read o old new tells f = absurd (never_tells_read o tells)
bad_head fault o old new tells f = f

-- the header that was read, or what there was of it, has a flaw
pub finds_bad_head : (k : ℕ) (buffer filled : List ℕ) (fault : TreeFault) (old new : DeskState) → length buffer ≡ header_length
    → Fills k buffer filled old new → Tells fault (header_flaw (take k filled)) → FailsToReadHead fault old new
finds_bad_head k buffer filled fault old new room fills tells =
    let all : IfSome old.input (λ bytes. k ≡ min header_length (length bytes)) =
    subst (λ (n : ℕ). IfSome old.input (λ bytes. k ≡ min n (length bytes))) room fills.all in
    let short : length (take k filled) ≤ header_length = omega (arith, fills.room, room, length-take k filled) in
    bad_head fault (header_flaw (take k filled)) old new tells record {
      possible = record {
        bytes = take k filled;
        fit = fills.fit;
        holds = subst (λ (bytes : List ℕ). Tells fault (header_flaw bytes)) (sym (take_all header_length (take k filled) short)) tells;
      };
      flaw = header_of old.input k filled (λ bytes. Tells fault (header_flaw bytes)) fills.front all tells;
      after = fills.after ∙ taken-min old header_length k all;
    }
