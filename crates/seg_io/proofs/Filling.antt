-- A buffer that is being filled, piece by piece.
use Rattle.std.proofs.Common.{◌≡◌, ℕ, ◌+◌, ◌-◌, ◌<◌, ◌≤◌, List, [], ◌++◌, length, take, drop, min, Option, Some, None, IfSome, refl, sym, ap, ◌∙◌, subst, arith, length-append, length-take, length-drop}
use Rattle.std.specs.Prelude.{All}
use Rattle.std.specs.Option.{option_map}
use Rattle.std.proofs.Math.Seq.{take-add, take-append-add}
use Rattle.std.proofs.lemmas.List.{take-append-le, length-take-le}
use Rattle.std.proofs.lemmas.List.Elements.{All-nil, All-take}
use borrow.Rule.Slice.PartMut.{put_mid, post_of}
use Rattle.seg_io.specs.Desk.{DeskState, taken, Reads, Fills, FailsToRead, FailsAfterReading}
use Rattle.agglo_model.specs.Count.{Rose}
use Rattle.seg_io.proofs.States.{for_some, taken-none, taken-taken}

-- the first n bytes of the input stand at the front of the buffer, and are taken off
pub record HasFilled (n : ℕ) (into : List ℕ) (old now : DeskState) : Type 0 where
  pub room : n ≤ length into
  pub there : IfSome old.input (λ bytes. n ≤ length bytes)
  pub front : IfSome old.input (λ bytes. take n into ≡ take n bytes)
  pub fit : All (λ byte. byte < 256) (take n into)
  pub after : now ≡ taken n old

pub nothing_filled : (into : List ℕ) (s : DeskState) → HasFilled 0 into s s
nothing_filled into s = record {
  room = omega arith;
  there = for_some s.input (λ bytes. 0 ≤ length bytes) (λ bytes. omega arith);
  front = for_some s.input (λ bytes. take 0 into ≡ take 0 bytes) (λ bytes. refl);
  fit = All-nil (λ byte. byte < 256);
  after = sym (taken-none s);
}

there_more : (o : Option (List ℕ)) (n k : ℕ) → IfSome o (λ bytes. n ≤ length bytes)
    → IfSome (option_map (drop n) o) (λ bytes. k ≤ length bytes)
    → IfSome o (λ bytes. n + k ≤ length bytes)
there_more None n k h t = tt
there_more (Some bytes) n k h t = omega (arith, length-drop n bytes)

front_more : (o : Option (List ℕ)) (n k : ℕ) (into part post : List ℕ) → n ≤ length into → k ≤ length part
    → IfSome o (λ bytes. take n into ≡ take n bytes)
    → IfSome (option_map (drop n) o) (λ bytes. take k part ≡ take k bytes)
    → IfSome o (λ bytes. take (n + k) (take n into ++ (part ++ post)) ≡ take (n + k) bytes)
front_more None n k into part post r s h t = tt
front_more (Some bytes) n k into part post r s h t =
    let long : length (take n into) ≡ n = length-take-le n into r in
    let joined : take (n + k) (take n into ++ (part ++ post)) ≡ take n into ++ take k (part ++ post) =
    subst (λ (m : ℕ). take (m + k) (take n into ++ (part ++ post)) ≡ take n into ++ take k (part ++ post)) long
    (take-append-add (take n into) (part ++ post) k) in
    let piece : take k (part ++ post) ≡ take k part = take-append-le k part post s in
    let whole : take (n + k) bytes ≡ take n bytes ++ take k (drop n bytes) = take-add n k bytes in cc

-- a read fills some more
pub filled_more : (n k : ℕ) (into part : List ℕ) (old now new : DeskState) → HasFilled n into old now
    → Reads k (take (length into - n) (drop n into)) part now new
    → length part ≡ length (take (length into - n) (drop n into)) → All (λ byte. byte < 256) (put_mid n (length into - n) into part)
    → HasFilled (n + k) (put_mid n (length into - n) into part) old new
filled_more n k into part old now new h r e fit =
    let same : now.input ≡ option_map (drop n) old.input = ap (λ (s : DeskState). s.input) h.after in
    record {
      room = omega (arith, length-append (take n into) (part ++ post_of n (length into - n) into), length-append part (post_of n (length into - n) into), length-take-le n into h.room, h.room, r.room, length-take (length into - n) (drop n into), length-drop n into);
      there = there_more old.input n k h.there (subst (λ (o : Option (List ℕ)). IfSome o (λ bytes. k ≤ length bytes)) same r.there);
      front = front_more old.input n k into part (post_of n (length into - n) into) h.room
          (omega (arith, h.room, r.room, length-take (length into - n) (drop n into), length-drop n into)) h.front
          (subst (λ (o : Option (List ℕ)). IfSome o (λ bytes. take k part ≡ take k bytes)) same r.front);
      fit = All-take (λ byte. byte < 256) (n + k) _ fit;
      after = r.after ∙ (ap (taken k) h.after ∙ taken-taken n k old);
    }

all_full : (o : Option (List ℕ)) (n m : ℕ) → n ≡ m → IfSome o (λ bytes. n ≤ length bytes)
    → IfSome o (λ bytes. n ≡ min m (length bytes))
all_full None n m e h = tt
all_full (Some bytes) n m e h = omega arith

all_ended : (o : Option (List ℕ)) (n k m : ℕ) → k ≡ 0 → n ≤ m → IfSome o (λ bytes. n ≤ length bytes)
    → IfSome (option_map (drop n) o) (λ bytes. k ≡ 0 → bytes ≡ [])
    → IfSome o (λ bytes. n ≡ min m (length bytes))
all_ended None n k m z r h t = tt
all_ended (Some bytes) n k m z r h t = omega (arith, length-drop n bytes, ap length (t z))

-- the buffer is full
pub filled_whole : (n : ℕ) (buffer into : List ℕ) (old now : DeskState) → length into ≡ length buffer
    → length into ≤ n → HasFilled n into old now → Fills n buffer into old now
filled_whole n buffer into old now e full h = record {
  room = omega (arith, h.room);
  front = h.front;
  all = all_full old.input n (length buffer) (omega (arith, h.room)) h.there;
  fit = h.fit;
  after = h.after;
}

-- the input came to its end
pub filled_to_end : (n k : ℕ) (buffer into part : List ℕ) (old now new : DeskState) → k ≡ 0 → length into ≡ length buffer
    → HasFilled n into old now → Reads k (take (length into - n) (drop n into)) part now new
    → length part ≡ length (take (length into - n) (drop n into)) → All (λ byte. byte < 256) (put_mid n (length into - n) into part)
    → Fills n buffer (put_mid n (length into - n) into part) old new
filled_to_end n k buffer into part old now new none e h r p fit =
    let same : now.input ≡ option_map (drop n) old.input = ap (λ (s : DeskState). s.input) h.after in
    let z : n + k ≡ n = omega arith in
    let more : HasFilled n (put_mid n (length into - n) into part) old new =
    subst (λ (m : ℕ). HasFilled m (put_mid n (length into - n) into part) old new) z (filled_more n k into part old now new h r p fit) in
    record {
      room = omega (arith, h.room);
      front = more.front;
      all = all_ended old.input n k (length buffer) none (omega (arith, h.room)) h.there
          (subst (λ (o : Option (List ℕ)). IfSome o (λ bytes. k ≡ 0 → bytes ≡ [])) same r.none_left);
      fit = more.fit;
      after = more.after;
    }

-- a read failed, with room left in the buffer
pub fails_after : (n : ℕ) (buffer into : List ℕ) (old now new : DeskState) → length into ≡ length buffer → n < length into
    → HasFilled n into old now → FailsToRead now new → FailsAfterReading (λ _. length buffer) old new
fails_after n buffer into old now new e less h f =
    let same : now.input_faults ≡ old.input_faults = ap (λ (s : DeskState). s.input_faults) h.after in
    record {
      read = n;
      few = for_some old.input (λ _. n < length buffer) (λ _. omega arith);
      fault = subst (λ (m : ℕ). Rose m new.input_faults) same f.fault;
      after = f.after ∙ ap (λ (s : DeskState). record s { input_faults = new.input_faults }) h.after;
    }
