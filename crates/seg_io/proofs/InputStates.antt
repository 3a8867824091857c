-- What is left of a desk's input.
use Rattle.std.proofs.Common.{◌≡◌, ℕ, ◌+◌, ◌<◌, ◌≤◌, List, [], length, drop, min, Option, Some, None, IfSome, refl, ap, ◌∙◌, subst, arith}
use Rattle.std.specs.Option.{option_map}
use Rattle.std.proofs.lemmas.List.{drop_min, drop_all}
use Rattle.agglo_model.specs.Count.{Rose}
use Rattle.seg_io.specs.Desk.{DeskState, taken, emptied, TakesSome, FailsAfterReading}
use Rattle.seg_io.proofs.States.{taken-taken}

input_min : (o : Option (List ℕ)) (n k : ℕ) → IfSome o (λ bytes. k ≡ min n (length bytes))
    → option_map (drop k) o ≡ option_map (drop n) o
input_min None n k all = refl
input_min (Some bytes) n k all = ap Some (ap (λ (m : ℕ). drop m bytes) all ∙ drop_min n bytes)

-- as many as there are, up to n, are the first n
pub taken-min : (s : DeskState) (n k : ℕ) → IfSome s.input (λ bytes. k ≡ min n (length bytes)) → taken k s ≡ taken n s
taken-min s n k all = ap (λ (i : Option (List ℕ)). record s { input = i }) (input_min s.input n k all)

input_all : (o : Option (List ℕ)) (n : ℕ) → IfSome o (λ bytes. length bytes ≤ n)
    → option_map (drop n) o ≡ option_map (λ (bytes : List ℕ). []) o
input_all None n all = refl
input_all (Some bytes) n all = ap Some (drop_all n bytes all)

-- where there are no more than n, nothing is left after n
pub taken-all : (s : DeskState) (n : ℕ) → IfSome s.input (λ bytes. length bytes ≤ n) → taken n s ≡ emptied s
taken-all s n all = ap (λ (i : Option (List ℕ)). record s { input = i }) (input_all s.input n all)

few_more : (o : Option (List ℕ)) (n k : ℕ) (wanted later : List ℕ → ℕ)
    → IfSome o (λ bytes. n + wanted (drop n bytes) ≤ later bytes) → IfSome (option_map (drop n) o) (λ bytes. k < wanted bytes)
    → IfSome o (λ bytes. n + k < later bytes)
few_more None n k wanted later most few = tt
few_more (Some bytes) n k wanted later most few = omega arith

-- a read fails after n bytes were taken
pub fails_later : (n : ℕ) (wanted later : List ℕ → ℕ) (old now new : DeskState) → now ≡ taken n old
    → IfSome old.input (λ bytes. n + wanted (drop n bytes) ≤ later bytes) → FailsAfterReading wanted now new
    → FailsAfterReading later old new
fails_later n wanted later old now new before most fails =
    let same : now.input_faults ≡ old.input_faults = ap (λ (s : DeskState). s.input_faults) before in
    record {
      read = n + fails.read;
      few = few_more old.input n fails.read wanted later most
          (subst (λ (s : DeskState). IfSome s.input (λ bytes. fails.read < wanted bytes)) before fails.few);
      fault = subst (λ (m : ℕ). Rose m new.input_faults) same fails.fault;
      after = fails.after
          ∙ (ap (λ (s : DeskState). record (taken fails.read s) { input_faults = new.input_faults }) before
          ∙ ap (λ (s : DeskState). record s { input_faults = new.input_faults }) (taken-taken n fails.read old));
    }

few_still : (o : Option (List ℕ)) (k : ℕ) (wanted more : List ℕ → ℕ) → IfSome o (λ bytes. wanted bytes ≤ more bytes)
    → IfSome o (λ bytes. k < wanted bytes) → IfSome o (λ bytes. k < more bytes)
few_still None k wanted more most few = tt
few_still (Some bytes) k wanted more most few = omega arith

-- a reader that wants more fails as soon
pub fails_sooner : (wanted more : List ℕ → ℕ) (old new : DeskState) → IfSome old.input (λ bytes. wanted bytes ≤ more bytes)
    → FailsAfterReading wanted old new → FailsAfterReading more old new
fails_sooner wanted more old new most fails = record {
  read = fails.read;
  few = few_still old.input fails.read wanted more most fails.few;
  fault = fails.fault;
  after = fails.after;
}

nothing_left : (o : Option (List ℕ)) (n : ℕ)
    → option_map {U = List ℕ} (λ _. []) (option_map (drop n) o) ≡ option_map {U = List ℕ} (λ _. []) o
nothing_left None n = refl
nothing_left (Some bytes) n = refl

-- what is emptied later is emptied
pub emptied_later : (old now : DeskState) (n : ℕ) → now ≡ taken n old → emptied now ≡ emptied old
emptied_later old now n e = ap emptied e ∙ ap (λ (o : Option (List ℕ)). record old { input = o }) (nothing_left old.input n)

-- some was taken, and then some more
pub takes_more : (n : ℕ) (old now new : DeskState) → now ≡ taken n old → TakesSome now new → TakesSome old new
takes_more n old now new e t = record {
  count = n + t.count;
  after = t.after ∙ (ap (taken t.count) e ∙ taken-taken n t.count old);
}

-- what is left of the input after n bytes
pub left_of : (n : ℕ) (old now : DeskState) (P : List ℕ → Type 0) → now ≡ taken n old → IfSome now.input P
    → IfSome (option_map (drop n) old.input) P
left_of n old now P e h = subst (λ (s : DeskState). IfSome s.input P) e h
