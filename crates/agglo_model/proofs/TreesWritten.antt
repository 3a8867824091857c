-- Bytes without a flaw are the file of the merge tree that they hold.
use Rattle.std.proofs.Common.{◌≡◌, ℕ, ◌*◌, ◌<◌, ◌≤◌, nat_lt, nat_eq, Bool, true, false, if◌then◌else◌, List, ◌++◌, length, Option, Some, None, refl, sym, ap, ◌∙◌, arith}
use Rattle.std.specs.Prelude.{All}
use Rattle.std.specs.List.{flat_map, starts_with}
use Rattle.std.specs.Option.{option_map, option_or}
use Rattle.std.proofs.lemmas.Bool.Decides.{nat_tests}
use Rattle.std.proofs.lemmas.List.{append-nil, drop_all, length-take, take-append-drop}
use Rattle.std.proofs.lemmas.List.Elements.{All-take, All-drop}
use Rattle.agglo_model.specs.Axes.{axes_flaw}
use Rattle.agglo_model.specs.MergeTree.{merge_bytes, tree_header, tree_magic}
use Rattle.agglo_model.specs.VolumeFile.{header_axes, header_length, body}
use Rattle.agglo_model.specs.TreeFile.{TreeFlaw, BadAxes, header, header_threshold, header_merges, counts_flaw, header_flaw, body_flaw, merges_in, record_length}
use Rattle.agglo_model.specs.TreeLaws.{SoundFilesAreOfTrees}
use Rattle.agglo_model.proofs.FileParts.{Stands, joined, text_stands, u32_stands, axes_stand, merges_stand}
use Rattle.agglo_model.proofs.SoundTrees.{as_many, first_none}
use Rattle.agglo_model.proofs.TreeBodies.{whole_length}

begun : (short text : Bool) (rest : Option TreeFlaw) (x y : TreeFlaw)
    → (if short then Some x else (if text then rest else Some y)) ≡ None → (short ≡ false) × (text ≡ true)
begun true text rest x y e = absurd (cc)
begun false false rest x y e = absurd (cc)
begun false true rest x y e = (refl, refl)

-- a header without a flaw is long enough, and begins with the text
header_begins : (bytes : List ℕ) → header_flaw bytes ≡ None
    → (header_length ≤ length bytes) × (starts_with nat_eq bytes tree_magic ≡ true)
unfolding header_flaw
header_begins bytes e =
    let tests = begun (nat_lt (length bytes) header_length) (starts_with nat_eq bytes tree_magic)
    (option_or (option_map BadAxes (axes_flaw (header_axes bytes))) (counts_flaw bytes)) _ _ e in
    (at_least (length bytes) header_length tests.0, tests.1)
  where
    at_least : (n m : ℕ) → nat_lt n m ≡ false → m ≤ n
    at_least n m h = grind (arith, nat_tests)

header_stands : (bytes : List ℕ) → All (λ byte. byte < 256) bytes → header_flaw bytes ≡ None
    → Stands bytes 0 header_length (tree_header (header_axes bytes) (header_threshold bytes) (header_merges bytes))
header_stands bytes small e =
    let begins = header_begins bytes e in
    joined (text_stands bytes tree_magic begins.1)
    (joined (axes_stand bytes small 8 20 refl (omega (arith, begins.0)))
    (joined (u32_stands bytes small 20 24 refl (omega (arith, begins.0)))
    (joined (u32_stands bytes small 24 28 refl (omega (arith, begins.0))) (u32_stands bytes small 28 32 refl begins.0))))

-- a part that stands from the first byte to the last is all of them
all_of : {bytes : List ℕ} {n : ℕ} {part : List ℕ} → Stands bytes 0 n part → length bytes ≤ n → part ≡ bytes
all_of {bytes} {n} {part} stands short =
    sym (append-nil part) ∙ (ap (λ rest. part ++ rest) (sym (drop_all n bytes short)) ∙ stands.is)

body_written : (n : ℕ) (bytes : List ℕ) → All (λ byte. byte < 256) bytes → length bytes ≡ record_length * n
    → flat_map merge_bytes (merges_in n bytes) ≡ bytes
unfolding merges_in
body_written n bytes small size =
    all_of (merges_stand bytes small n 0 (record_length * n) (omega arith) (omega (arith, size))) (omega (arith, size))

pub sound_files_are_of_trees : SoundFilesAreOfTrees
sound_files_are_of_trees bytes small none =
    let first = header bytes in
    let n = header_merges first in
    let parts = first_none (header_flaw first) (body_flaw (header_axes first) (header_threshold first) n (body bytes)) none in
    let stands = header_stands first (All-take (λ byte. byte < 256) header_length bytes small) parts.0 in
    let front : tree_header (header_axes first) (header_threshold first) n ≡ first =
    all_of stands (omega (arith, length-take header_length bytes)) in
    let size = whole_length (header_axes first) (header_threshold first) n (body bytes) parts.1 in
    let rest = body_written n (body bytes) (All-drop (λ byte. byte < 256) header_length bytes small) size in
    let counted = ap (tree_header (header_axes first) (header_threshold first)) (as_many n (body bytes)) ∙ front in
    (λ i. counted i ++ rest i) ∙ take-append-drop header_length bytes
