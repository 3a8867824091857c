-- Bytes that are read in pieces, up to a limit or to the end of the input.
use Rattle.std.proofs.Common.{◌≡◌, ℕ, ◌+◌, ◌<◌, ◌≤◌, true, List, [], ◌++◌, length, take, drop, min, Option, Some, None, IfSome, refl, sym, ap, ◌∙◌, subst, arith, length-drop}
use Rattle.std.specs.Prelude.{All}
use Rattle.std.specs.Option.{option_map}
use Rattle.std.proofs.Math.Seq.{take-add}
use Rattle.std.proofs.lemmas.List.Elements.{All-nil}
use Rattle.seg_io.specs.Desk.{DeskState, taken}
use Rattle.seg_io.proofs.States.{for_some, taken-none, taken-taken}
use Rattle.merge_tree.specs.declared.tree_fault.InputFault.{InputFault}
use Rattle.merge_tree.specs.declared.tree_fault.InputFault.TheVariants.{Read, Memory}
use Rattle.merge_tree.specs.TreeReading.{FailsToRead, AppendsPiece}
use Rattle.seg_io.proofs.InputStates.{fails_later, left_of}

-- what was read so far is what was taken off the input
pub record HasRead (bytes : List ℕ) (old now : DeskState) : Type 0 where
  pub there : IfSome old.input (λ input. length bytes ≤ length input)
  pub says : IfSome old.input (λ input. bytes ≡ take (length bytes) input)
  pub fit : All (λ byte. byte < 256) bytes
  pub after : now ≡ taken (length bytes) old

pub nothing_read : (bytes : List ℕ) (s : DeskState) → bytes ≡ [] → HasRead bytes s s
nothing_read bytes s none =
    subst (λ (xs : List ℕ). HasRead xs s s) (sym none) record {
      there = for_some s.input (λ input. 0 ≤ length input) (λ input. omega arith);
      says = for_some s.input (λ input. [] ≡ take 0 input) (λ input. refl);
      fit = All-nil (λ byte. byte < 256);
      after = sym (taken-none s);
    }

-- the input is still open
pub still_open : (bytes : List ℕ) (old now : DeskState) → HasRead bytes old now → old.has_input ≡ true → now.has_input ≡ true
still_open bytes old now h open_before = ap (λ (s : DeskState). s.has_input) h.after ∙ open_before

there_more : (o : Option (List ℕ)) (m count got k : ℕ) → k ≡ m + got → IfSome o (λ input. m ≤ length input)
    → IfSome (option_map (drop m) o) (λ input. got ≡ min count (length input)) → IfSome o (λ input. k ≤ length input)
there_more None m count got k e there all = tt
there_more (Some input) m count got k e there all = omega (arith, length-drop m input)

says_more : (o : Option (List ℕ)) (before after : List ℕ) (got k : ℕ) → k ≡ length before + got
    → IfSome o (λ input. before ≡ take (length before) input)
    → IfSome (option_map (drop (length before)) o) (λ input. after ≡ before ++ take got input)
    → IfSome o (λ input. after ≡ take k input)
says_more None before after got k e says front = tt
says_more (Some input) before after got k e says front =
    front
    ∙ (ap (λ (xs : List ℕ). xs ++ take got (drop (length before) input)) says
    ∙ (sym (take-add (length before) got input) ∙ ap (λ (n : ℕ). take n input) (sym e)))

-- a piece more was read
pub read_more : (got count : ℕ) (before after : List ℕ) (old now new : DeskState) → HasRead before old now
    → AppendsPiece got count before after now new → HasRead after old new
read_more got count before after old now new h piece =
    let size : length after ≡ length before + got = piece.counted in
    record {
      there = there_more old.input (length before) count got (length after) size h.there
          (left_of (length before) old now (λ input. got ≡ min count (length input)) h.after piece.all);
      says = says_more old.input before after got (length after) size h.says
          (left_of (length before) old now (λ input. after ≡ before ++ take got input) h.after piece.front);
      fit = piece.fit h.fit;
      after = piece.moved
          ∙ (ap (taken got) h.after ∙ (taken-taken (length before) got old ∙ ap (λ (n : ℕ). taken n old) (sym size)));
    }

-- no piece was read
pub no_piece : (most count : ℕ) (bytes : List ℕ) (fault : InputFault) (old now new : DeskState) → length bytes + count ≤ most
    → HasRead bytes old now → FailsToRead count fault now new → FailsToRead most fault old new
no_piece most count bytes Read old now new within h f = fails_later (length bytes) (λ _. count) (λ _. most) old now new h.after
    (for_some old.input (λ _. length bytes + count ≤ most) (λ _. within)) f
no_piece most count bytes Memory old now new within h f = record { count = length bytes + f.count; after = f.after ∙ (ap (taken f.count) h.after ∙ taken-taken (length bytes) f.count old) }
