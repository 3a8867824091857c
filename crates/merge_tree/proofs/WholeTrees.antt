-- A whole tree file: its header, then its records.
use Rattle.std.proofs.Common.{refl, ◌≡◌, ◌≢◌, ℕ, ◌+◌, ◌*◌, ◌<◌, ◌≤◌, true, List, [], ◌++◌, length, take, drop, min, Option, Some, None, IfSome, sym, ap, ◌∙◌, subst, arith, length-take}
use Rattle.std.specs.Option.{option_map, option_or}
use Rattle.std.proofs.lemmas.List.{take_all, take_at, drop_at}
use Rattle.agglo_model.specs.Axes.{Axes}
use Rattle.agglo_model.specs.PairOrder.{Threshold}
use Rattle.agglo_model.specs.VolumeFile.{header_length, header_axes, body}
use Rattle.agglo_model.specs.TreeFile.{MergeTree, TreeFlaw, header, header_threshold, header_merges, header_flaw, body_flaw, records_flaw, merges_in, record_length, tree_flaw, tree_in}
use Rattle.agglo_model.proofs.TreeBodies.{short_body, long_body, whole_body, cut_body, whole_length}
use Rattle.seg_io.specs.Desk.{DeskState, taken}
use Rattle.seg_io.proofs.Bytes.{same_bytes, joined_bytes}
use Rattle.seg_io.proofs.States.{for_some, taken-taken}
use Rattle.seg_io.proofs.InputStates.{taken-all, emptied_later, takes_more, fails_later, fails_sooner}
use Rattle.merge_tree.specs.declared.tree_records.Head.{Head}
use Rattle.merge_tree.specs.declared.tree_fault.TreeFault.{TreeFault}
use Rattle.merge_tree.specs.declared.tree_fault.TreeFault.TheVariants.{Truncated, Trailing, Read, Memory}
use Rattle.merge_tree.specs.declared.tree_fault.InputFault.{InputFault}
use Rattle.merge_tree.specs.declared.tree_fault.InputFault.TheVariants.{Read as InputRead, Memory as InputMemory}
use Rattle.merge_tree.specs.TreeFault.{fault_of, told}
use Rattle.merge_tree.specs.TreeReading.{Tells, body_count, judged_length, read_count, ReadsTree, FailsToReadTree, ReadsUpTo, FailsToRead}
use Rattle.merge_tree.specs.TreeHead.{SaysHead, IsHeader, ReadsHead, FailsToReadHead}
use Rattle.merge_tree.proofs.Headers.{never_tells_read}
use Rattle.merge_tree.proofs.Judged.{told_first}

pub tells_truncated : (axes : Axes) (t : Threshold) (n : ℕ) (bytes : List ℕ) → length bytes < record_length * n
    → Tells (Truncated (length bytes)) (body_flaw axes t n bytes)
tells_truncated axes t n bytes h = ap (option_map fault_of) (short_body axes t n bytes h)

pub tells_trailing : (axes : Axes) (t : Threshold) (n : ℕ) (bytes : List ℕ) → record_length * n < length bytes
    → Tells Trailing (body_flaw axes t n bytes)
tells_trailing axes t n bytes h = ap (option_map fault_of) (long_body axes t n bytes h)

pub tells_record : (axes : Axes) (t : Threshold) (n : ℕ) (bytes : List ℕ) (fault : TreeFault) → length bytes ≡ record_length * n
    → Tells fault (records_flaw axes t [] (merges_in n bytes)) → Tells fault (body_flaw axes t n bytes)
tells_record axes t n bytes fault size tells = ap (option_map fault_of) (whole_body axes t n bytes size) ∙ tells

if_some : (o : Option (List ℕ)) (P Q : List ℕ → Type 0) → ((bytes : List ℕ) → P bytes → Q bytes) → IfSome o P → IfSome o Q
if_some None P Q f h = tt
if_some (Some bytes) P Q f h = f bytes h

-- the header's flaw comes first
head_flaw : (fault : TreeFault) (o : Option (List ℕ)) → IfSome o (λ bytes. Tells fault (header_flaw (header bytes)))
    → IfSome o (λ bytes. Tells fault (tree_flaw bytes))
head_flaw fault o h = if_some o _ _ (λ bytes tells. told_first (header_flaw (header bytes)) _ fault tells) h

-- of an input with a flawed header just the header is taken
head_taken : (fault : TreeFault) (o : Option (List ℕ)) → IfSome o (λ bytes. Tells fault (header_flaw (header bytes)))
    → option_map (drop header_length) o ≡ option_map (drop (read_count o)) o
head_taken fault None h = refl
head_taken fault (Some bytes) h = ap (λ (n : ℕ). Some (drop (header_length + n) bytes)) (none_more (header_flaw (header bytes)) h)
  where
    none_more : (flaw : Option TreeFlaw) → Tells fault flaw → 0 ≡ body_count flaw (header_merges (header bytes))
    none_more None tells = absurd (cc)
    none_more (Some flaw) tells = refl

-- no header was read
pub no_head : (fault : TreeFault) (old new : DeskState) → FailsToReadHead fault old new → FailsToReadTree fault old new
no_head Read old new f = fails_sooner (λ _. header_length) judged_length old new
    (for_some old.input (λ bytes. header_length ≤ judged_length bytes) (λ bytes. omega arith)) f
no_head Memory old new f = record { count = header_length; after = f.after }
no_head fault old new f = record {
  possible = same_bytes (λ bytes. told_first (header_flaw (header bytes)) _ fault) f.possible;
  flaw = head_flaw fault old.input f.flaw;
  after = f.after ∙ ap (λ (i : Option (List ℕ)). record old { input = i }) (head_taken fault old.input f.flaw);
}

-- the input is still open after the header
pub open_after : (head : Head) (old now : DeskState) → ReadsHead head old now → old.has_input ≡ true → now.has_input ≡ true
open_after head old now h open_before = ap (λ (s : DeskState). s.has_input) h.after ∙ open_before

-- of an input with a sound header the records that it claims are read, and one byte more
rest_judged : (o : Option (List ℕ)) (head : Head) (most : ℕ) → most ≡ record_length * head.merges + 1
    → IfSome o (λ input. header_flaw (header input) ≡ None) → IfSome o (λ input. SaysHead head (header input))
    → IfSome o (λ input. header_length + most ≡ judged_length input)
rest_judged None head most e sound says = tt
rest_judged (Some input) head most e sound says =
    ap (λ (n : ℕ). header_length + n)
    (e ∙ (ap (λ n. record_length * n + 1) says.merges
    ∙ ap (λ (flaw : Option TreeFlaw). body_count flaw (header_merges (header input))) (sym sound)))

-- what follows the header could not be read
pub no_rest : (head : Head) (most : ℕ) (fault : InputFault) (old now new : DeskState) → most ≡ record_length * head.merges + 1
    → ReadsHead head old now → FailsToRead most fault now new → FailsToReadTree (told fault) old new
no_rest head most InputRead old now new e h f = fails_later header_length (λ _. most) judged_length old now new h.after
    (if_some old.input _ (λ bytes. header_length + most ≤ judged_length bytes) (λ bytes same. omega arith)
    (rest_judged old.input head most e h.sound h.says)) f
no_rest head most InputMemory old now new e h f = takes_more header_length old now new h.after f

-- what is left of the input after the header
rest_of : (old now : DeskState) (P : List ℕ → Type 0) → now ≡ taken header_length old → IfSome now.input P
    → IfSome (option_map (drop header_length) old.input) P
rest_of old now P e h = subst (λ (s : DeskState). IfSome s.input P) e h

-- the flaw of the file, where its header is sound, is that of the bytes that were read after it
flaw_after : (o : Option (List ℕ)) (head : Head) (most : ℕ) (bytes : List ℕ) → most ≡ record_length * head.merges + 1
    → IfSome o (λ input. header_flaw (header input) ≡ None) → IfSome o (λ input. SaysHead head (header input))
    → IfSome (option_map (drop header_length) o) (λ rest. bytes ≡ take most rest)
    → IfSome o (λ input. tree_flaw input ≡ body_flaw head.dims head.threshold head.merges bytes)
flaw_after None head most bytes e sound says read = tt
flaw_after (Some input) head most bytes e sound says read =
    ap (λ (o : Option TreeFlaw). option_or o (body_flaw (header_axes (header input)) (header_threshold (header input)) (header_merges (header input)) (body input))) sound
    ∙ ((λ i. body_flaw (sym says.axes i) (sym says.threshold i) (sym says.merges i) (body input))
    ∙ (sym (cut_body head.dims head.threshold head.merges (body input))
    ∙ ap (body_flaw head.dims head.threshold head.merges) (ap (λ n. take n (body input)) (sym e) ∙ sym read)))

-- bytes of the right length are all that follows the header
all_read : (rest bytes : List ℕ) (n most : ℕ) → most ≡ n + 1 → length bytes ≡ n → bytes ≡ take most rest → (bytes ≡ rest) × (length rest ≤ most)
all_read rest bytes n most e size read =
    let cut : length (take most rest) ≡ min most (length rest) = length-take most rest in
    let short : length rest ≤ most = omega (arith, cut, ap length read) in
    (read ∙ take_all most rest short, short)

says_after : (o : Option (List ℕ)) (head : Head) (most : ℕ) (bytes : List ℕ) (tree : MergeTree) → most ≡ record_length * head.merges + 1
    → length bytes ≡ record_length * head.merges
    → tree ≡ record { axes = head.dims; threshold = head.threshold; merges = merges_in head.merges bytes }
    → IfSome o (λ input. SaysHead head (header input)) → IfSome (option_map (drop header_length) o) (λ rest. bytes ≡ take most rest)
    → IfSome o (λ input. tree ≡ tree_in input)
says_after None head most bytes tree e size made says read = tt
says_after (Some input) head most bytes tree e size made says read =
    let all = all_read (body input) bytes (record_length * head.merges) most e size read in
    made ∙ (λ i. record { axes = says.axes i; threshold = says.threshold i; merges = merges_in (says.merges i) (all.0 i) })

rest_is_short : (o : Option (List ℕ)) (n most : ℕ) (bytes : List ℕ) → most ≡ n + 1 → length bytes ≡ n
    → IfSome o (λ rest. bytes ≡ take most rest) → IfSome o (λ rest. length rest ≤ most)
rest_is_short o n most bytes e size h = if_some o _ _ (λ rest read. (all_read rest bytes n most e size read).1) h

-- a whole file was read
pub reads_tree : (head : Head) (most : ℕ) (bytes : List ℕ) (tree : MergeTree) (old now new : DeskState) → most ≡ record_length * head.merges + 1
    → ReadsHead head old now → ReadsUpTo most bytes now new → body_flaw head.dims head.threshold head.merges bytes ≡ None
    → tree ≡ record { axes = head.dims; threshold = head.threshold; merges = merges_in head.merges bytes } → ReadsTree tree old new
reads_tree head most bytes tree old now new e h read sound made =
    let rest : IfSome (option_map (drop header_length) old.input) (λ rest. bytes ≡ take most rest) =
    rest_of old now (λ rest. bytes ≡ take most rest) h.after read.says in
    let size : length bytes ≡ record_length * head.merges = whole_length head.dims head.threshold head.merges bytes sound in
    record {
      sound = if_some old.input _ _ (λ input same. same ∙ sound) (flaw_after old.input head most bytes e h.sound h.says rest);
      says = says_after old.input head most bytes tree e size made h.says rest;
      after = read.after ∙ (taken-all now most (rest_is_short now.input (record_length * head.merges) most bytes e size read.says)
          ∙ emptied_later old now header_length h.after);
    }

all_taken : (o : Option (List ℕ)) (head : Head) (most : ℕ) → most ≡ record_length * head.merges + 1
    → IfSome o (λ input. header_flaw (header input) ≡ None) → IfSome o (λ input. SaysHead head (header input))
    → option_map (drop (header_length + most)) o ≡ option_map (drop (read_count o)) o
all_taken None head most e sound says = refl
all_taken (Some input) head most e sound says =
    ap (λ (n : ℕ). Some (drop n input)) (rest_judged (Some input) head most e sound says)

-- a header with this body after it is a file, and its flaw is that of the body
possible_after : (fault : TreeFault) (head : Head) (first rest : List ℕ) → IsHeader head first
    → Tells fault (body_flaw head.dims head.threshold head.merges rest) → Tells fault (tree_flaw (first ++ rest))
possible_after fault head first rest is tells =
    let front : header (first ++ rest) ≡ first = take_at first rest header_length is.long in
    let after : body (first ++ rest) ≡ rest = drop_at first rest header_length is.long in
    let says : SaysHead head (header (first ++ rest)) = subst (SaysHead head) (sym front) is.says in
    ap (option_map fault_of)
    (ap (λ (o : Option TreeFlaw). option_or o (body_flaw (header_axes (header (first ++ rest))) (header_threshold (header (first ++ rest))) (header_merges (header (first ++ rest))) (body (first ++ rest)))) (ap header_flaw front ∙ is.sound)
    ∙ ((λ i. body_flaw (sym says.axes i) (sym says.threshold i) (sym says.merges i) (body (first ++ rest)))
    ∙ ap (body_flaw head.dims head.threshold head.merges) after)) ∙ tells

-- what was read has a flaw, or there was no memory for its merges
pub finds_bad_tree : (fault : TreeFault) (head : Head) (most : ℕ) (bytes : List ℕ) (old now new : DeskState) → most ≡ record_length * head.merges + 1
    → ReadsHead head old now → ReadsUpTo most bytes now new
    → (fault ≢ Memory → Tells fault (body_flaw head.dims head.threshold head.merges bytes)) → FailsToReadTree fault old new
finds_bad_tree Read head most bytes old now new e h read tells = absurd (never_tells_read _ (tells (λ same. cc)))
finds_bad_tree Memory head most bytes old now new e h read tells = record {
  count = header_length + most;
  after = read.after ∙ (ap (taken most) h.after ∙ taken-taken header_length most old);
}
finds_bad_tree fault head most bytes old now new e h read tells =
    let rest : IfSome (option_map (drop header_length) old.input) (λ rest. bytes ≡ take most rest) =
    rest_of old now (λ rest. bytes ≡ take most rest) h.after read.says in
    record {
      possible = joined_bytes (possible_after fault head) h.header_is record { bytes = bytes; fit = read.fit; holds = tells (λ same. cc) };
      flaw = if_some old.input _ _ (λ input same. ap (option_map fault_of) same ∙ tells (λ same. cc))
          (flaw_after old.input head most bytes e h.sound h.says rest);
      after = read.after ∙ (ap (taken most) h.after ∙ (taken-taken header_length most old
          ∙ ap (λ (i : Option (List ℕ)). record old { input = i }) (all_taken old.input head most e h.sound h.says)));
    }
