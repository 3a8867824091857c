-- The body of a volume file, read in pieces.
use Rattle.std.proofs.Common.{◌≡◌, ℕ, ◌+◌, ◌-◌, ◌<◌, ◌≤◌, nat_lt, Bool, true, false, List, [], ◌++◌, length, take, drop, replicate, min, Option, Some, None, IfSome, refl, sym, ap, ◌∙◌, subst, arith, append_assoc, length-append, length-take, length-drop}
use Rattle.std.specs.Option.{option_map}
use Rattle.std.proofs.lemmas.Bool.Decides.{nat_tests}
use Rattle.std.proofs.lemmas.List.{take-take, take_all, take-append-le, length-replicate}
use Rattle.std.proofs.Math.Seq.{take-add, take-append-add}
use Rattle.agglo_model.specs.Axes.{Axes, edge_count}
use Rattle.agglo_model.specs.Grid.{Grid}
use Rattle.agglo_model.specs.VolumeFile.{body_flaw, Truncated as FlawTruncated, Trailing as FlawTrailing}
use Rattle.agglo_model.proofs.VolumesBack.{no_body_flaw}
use Rattle.seg_io.specs.Desk.{DeskState, taken, Fills, FailsAfterReading}
use Rattle.seg_io.proofs.Bytes.{some_zeros}
use Rattle.seg_io.proofs.States.{for_some, taken-none, taken-taken}
use Rattle.volume_file.specs.declared.fault.VolumeFault.{VolumeFault}
use Rattle.volume_file.specs.declared.fault.VolumeFault.TheVariants.{ShortHeader, Magic, Channels, Reserved, AxisZero, AxisLarge, TooMany, Truncated, Trailing, Read, Memory}
use Rattle.volume_file.specs.Fault.{fault_of}
use Rattle.volume_file.specs.Reading.{Tells, ReadsBody, FindsBadBody, FailsToReadBody}
use Rattle.volume_file.specs.Pieces.{ReadsBytes, FindsTooFew, FailsToReadBytes, AppendsPiece, FailsToAppend, FindsMore}
use Rattle.seg_io.proofs.InputStates.{taken-min, taken-all, fails_later, fails_sooner, left_of}

-- a piece by what it was filled with
piece_front : (o : Option (List ℕ)) (got : ℕ) (piece before line : List ℕ) → IfSome o (λ bytes. take got piece ≡ take got bytes)
    → line ≡ before ++ take got piece → IfSome o (λ bytes. line ≡ before ++ take got bytes)
piece_front None got piece before line front e = tt
piece_front (Some bytes) got piece before line front e = e ∙ ap (λ (xs : List ℕ). before ++ xs) front

-- a buffer at whose end a piece was read
pub appends_piece : (before zeros now piece post rest : List ℕ) (start count got long : ℕ) (old new : DeskState)
    → start ≡ length before → now ≡ take (start + count) before ++ zeros → length now ≡ start + count → long ≡ start + count
    → length piece ≡ length (take (length now - start) (drop start now))
    → Fills got (take (length now - start) (drop start now)) piece old new
    → AppendsPiece got count before (take long ((take start now ++ (piece ++ post)) ++ rest)) old new
appends_piece before zeros now piece post rest start count got long old new at grown size whole same fills =
    let free : length (take (length now - start) (drop start now)) ≡ count =
    omega (arith, length-take (length now - start) (drop start now), length-drop start now) in
    let front : take start now ≡ before =
    ap (take start) grown
    ∙ (ap (λ (xs : List ℕ). take start (xs ++ zeros)) (take_all (start + count) before (omega arith))
    ∙ (take-append-le start before zeros (omega arith) ∙ take_all start before (omega arith))) in
    let line : (take start now ++ (piece ++ post)) ++ rest ≡ before ++ (piece ++ (post ++ rest)) =
    ap (λ (xs : List ℕ). (xs ++ (piece ++ post)) ++ rest) front
    ∙ (append_assoc before (piece ++ post) rest ∙ ap (λ (xs : List ℕ). before ++ xs) (append_assoc piece post rest)) in
    record {
      room = omega (arith, fills.room);
      counted = ap (λ (xs : List ℕ). length (take long xs)) line
          ∙ omega (arith, length-take long (before ++ (piece ++ (post ++ rest))), length-append before (piece ++ (post ++ rest)), length-append piece (post ++ rest));
      front = piece_front old.input got piece before _ fills.front
          (ap (λ (xs : List ℕ). take (length before + got) (take long xs)) line
          ∙ (take-take (length before + got) long (before ++ (piece ++ (post ++ rest))) (omega (arith, fills.room))
          ∙ (take-append-add before (piece ++ (post ++ rest)) got
          ∙ ap (λ (xs : List ℕ). before ++ xs) (take-append-le got piece (post ++ rest) (omega (arith, fills.room))))));
      all = subst (λ (n : ℕ). IfSome old.input (λ bytes. got ≡ min n (length bytes))) free fills.all;
      moved = fills.after;
    }

-- what stands in the buffer is what was taken off the input
pub record HasRead (bytes : List ℕ) (old now : DeskState) : Type 0 where
  pub there : IfSome old.input (λ input. length bytes ≤ length input)
  pub says : IfSome old.input (λ input. bytes ≡ take (length bytes) input)
  pub after : now ≡ taken (length bytes) old

pub nothing_read : (bytes : List ℕ) (s : DeskState) → bytes ≡ [] → HasRead bytes s s
nothing_read bytes s none =
    subst (λ (xs : List ℕ). HasRead xs s s) (sym none) record {
      there = for_some s.input (λ input. 0 ≤ length input) (λ input. omega arith);
      says = for_some s.input (λ input. [] ≡ take 0 input) (λ input. refl);
      after = sym (taken-none s);
    }

-- the input is still open
pub still_open : (bytes : List ℕ) (old now : DeskState) → HasRead bytes old now → old.has_input ≡ true → now.has_input ≡ true
still_open bytes old now h open_before = ap (λ (s : DeskState). s.has_input) h.after ∙ open_before

there_more : (o : Option (List ℕ)) (m count got k : ℕ) → got ≡ count → k ≡ m + count → IfSome o (λ input. m ≤ length input)
    → IfSome (option_map (drop m) o) (λ input. got ≡ min count (length input)) → IfSome o (λ input. k ≤ length input)
there_more None m count got k e f there all = tt
there_more (Some input) m count got k e f there all = omega (arith, length-drop m input)

says_more : (o : Option (List ℕ)) (before after : List ℕ) (got k : ℕ) → k ≡ length before + got → length after ≤ k
    → IfSome o (λ input. before ≡ take (length before) input)
    → IfSome (option_map (drop (length before)) o) (λ input. take (length before + got) after ≡ before ++ take got input)
    → IfSome o (λ input. after ≡ take k input)
says_more None before after got k e most says front = tt
says_more (Some input) before after got k e most says front =
    let whole : take (length before + got) after ≡ after = take_all (length before + got) after (omega arith) in
    let joined : take (length before + got) input ≡ take (length before) input ++ take got (drop (length before) input) =
    take-add (length before) got input in
    let here : take k input ≡ take (length before + got) input = ap (λ (n : ℕ). take n input) e in
    sym whole
    ∙ (front
    ∙ (ap (λ (xs : List ℕ). xs ++ take got (drop (length before) input)) says ∙ (sym joined ∙ sym here)))

-- a whole piece more was read
pub read_more : (got count : ℕ) (before after : List ℕ) (old now new : DeskState) → count ≤ got → HasRead before old now
    → AppendsPiece got count before after now new → HasRead after old new
read_more got count before after old now new full h piece =
    let same : got ≡ count = omega (arith, piece.room) in
    let size : length after ≡ length before + count = piece.counted in
    let here : length before + got ≡ length after = omega arith in
    record {
      there = there_more old.input (length before) count got (length after) same size h.there
          (left_of (length before) old now (λ input. got ≡ min count (length input)) h.after piece.all);
      says = says_more old.input before after got (length after) (sym here) (omega arith) h.says
          (left_of (length before) old now (λ input. take (length before + got) after ≡ before ++ take got input) h.after piece.front);
      after = piece.moved
          ∙ (ap (taken got) h.after ∙ (taken-taken (length before) got old ∙ ap (λ (n : ℕ). taken n old) here));
    }

short_of : (o : Option (List ℕ)) (m count got n : ℕ) → got < count → m + count ≤ n → IfSome o (λ input. m ≤ length input)
    → IfSome (option_map (drop m) o) (λ input. got ≡ min count (length input)) → IfSome o (λ input. length input < n)
short_of None m count got n few within there all = tt
short_of (Some input) m count got n few within there all = omega (arith, length-drop m input)

all_of : (o : Option (List ℕ)) (m count got : ℕ) → got < count → IfSome o (λ input. m ≤ length input)
    → IfSome (option_map (drop m) o) (λ input. got ≡ min count (length input)) → IfSome o (λ input. m + got ≡ length input)
all_of None m count got few there all = tt
all_of (Some input) m count got few there all = omega (arith, length-drop m input)

least_of : (o : Option (List ℕ)) (n got : ℕ) → IfSome o (λ input. length input < n) → IfSome o (λ input. got ≡ length input)
    → IfSome o (λ input. got ≡ min n (length input))
least_of None n got short all = tt
least_of (Some input) n got short all = omega arith

-- the input came to its end too soon
pub too_few : (got count n m : ℕ) (before after : List ℕ) (old now new : DeskState) → m ≡ length before → got < count
    → m + count ≤ n → HasRead before old now → AppendsPiece got count before after now new → FindsTooFew n (m + got) old new
too_few got count n m before after old now new at few within h piece =
    let there : IfSome old.input (λ input. m ≤ length input) =
    subst (λ (k : ℕ). IfSome old.input (λ input. k ≤ length input)) (sym at) h.there in
    let moved : now ≡ taken m old = h.after ∙ ap (λ (k : ℕ). taken k old) (sym at) in
    let rest : IfSome (option_map (drop m) old.input) (λ input. got ≡ min count (length input)) =
    left_of m old now (λ input. got ≡ min count (length input)) moved piece.all in
    let short : IfSome old.input (λ input. length input < n) = short_of old.input m count got n few within there rest in
    let all : IfSome old.input (λ input. m + got ≡ length input) = all_of old.input m count got few there rest in
    record {
      few = omega arith;
      short = short;
      all = all;
      after = piece.moved
          ∙ (ap (taken got) moved ∙ (taken-taken m got old ∙ taken-min old n (m + got) (least_of old.input n (m + got) short all)));
    }

-- no piece was read
pub no_piece : (n count : ℕ) (bytes : List ℕ) (fault : VolumeFault) (old now new : DeskState) → length bytes + count ≤ n
    → HasRead bytes old now → FailsToAppend count fault now new → FailsToReadBytes n fault old new
no_piece n count bytes Read old now new within h f = fails_later (length bytes) (λ _. count) (λ _. n) old now new h.after
    (for_some old.input (λ _. length bytes + count ≤ n) (λ _. within)) f
no_piece n count bytes Memory old now new within h f = record { count = length bytes; after = f ∙ h.after }
no_piece n count bytes (ShortHeader got) old now new within h f = absurd f
no_piece n count bytes Magic old now new within h f = absurd f
no_piece n count bytes (Channels channels) old now new within h f = absurd f
no_piece n count bytes Reserved old now new within h f = absurd f
no_piece n count bytes (AxisZero axis) old now new within h f = absurd f
no_piece n count bytes (AxisLarge axis) old now new within h f = absurd f
no_piece n count bytes TooMany old now new within h f = absurd f
no_piece n count bytes (Truncated got) old now new within h f = absurd f
no_piece n count bytes Trailing old now new within h f = absurd f

-- all bytes were read
pub all_read : (n : ℕ) (bytes : List ℕ) (old now : DeskState) → length bytes ≡ n → HasRead bytes old now → ReadsBytes n bytes old now
all_read n bytes old now size h =
    subst (λ (k : ℕ). ReadsBytes k bytes old now) size record {
      counted = refl;
      there = h.there;
      says = h.says;
      after = h.after;
    }

-- the flaw of a body by its length
too_short : (a : Axes) (bytes : List ℕ) → length bytes < edge_count a → body_flaw a bytes ≡ Some (FlawTruncated (length bytes))
unfolding body_flaw
too_short a bytes short = grind (arith, nat_tests)

too_long : (a : Axes) (bytes : List ℕ) → edge_count a < length bytes → body_flaw a bytes ≡ Some FlawTrailing
unfolding body_flaw
too_long a bytes long = grind (arith, nat_tests)

-- some body is as short, and some is too long
short_body : (a : Axes) (got : ℕ) → got < edge_count a → Tells (Truncated got) (body_flaw a (replicate got 0))
short_body a got few =
    let zeros : List ℕ = replicate got 0 in
    let size : length zeros ≡ got = length-replicate got 0 in
    ap (option_map fault_of) (too_short a zeros (subst (λ (n : ℕ). n < edge_count a) (sym size) few)) ∙ ap (λ (n : ℕ). Some (Truncated n)) size

long_body : (a : Axes) → Tells Trailing (body_flaw a (replicate (edge_count a + 1) 0))
long_body a =
    let zeros : List ℕ = replicate (edge_count a + 1) 0 in
    let size : length zeros ≡ edge_count a + 1 = length-replicate (edge_count a + 1) 0 in
    ap (option_map fault_of) (too_long a zeros (subst (λ (n : ℕ). edge_count a < n) (sym size) (omega arith)))

truncated_flaw : (o : Option (List ℕ)) (a : Axes) (got : ℕ) → IfSome o (λ input. length input < edge_count a)
    → IfSome o (λ input. got ≡ length input) → IfSome o (λ input. option_map fault_of (body_flaw a input) ≡ Some (Truncated got))
truncated_flaw None a got short all = tt
truncated_flaw (Some input) a got short all =
    ap (option_map fault_of) (too_short a input short) ∙ ap (λ (n : ℕ). Some (Truncated n)) (sym all)

weaker : (o : Option (List ℕ)) (n m : ℕ) → n ≤ m + 1 → IfSome o (λ input. length input < n) → IfSome o (λ input. length input ≤ m)
weaker None n m h short = tt
weaker (Some input) n m h short = omega arith

-- the body was not read
pub no_body : (n : ℕ) (a : Axes) (fault : VolumeFault) (old new : DeskState) → n ≡ edge_count a
    → FailsToReadBytes n fault old new → FailsToReadBody a fault old new
no_body n a (Truncated got) old new e f =
    let short : IfSome old.input (λ input. length input < edge_count a) =
    subst (λ (k : ℕ). IfSome old.input (λ input. length input < k)) e f.short in
    record {
      possible = some_zeros got (short_body a got (subst (λ (k : ℕ). got < k) e f.few));
      flaw = truncated_flaw old.input a got short f.all;
      after = f.after
          ∙ (taken-all old n (weaker old.input n n (omega arith) f.short)
          ∙ sym (taken-all old (edge_count a + 1) (weaker old.input n (edge_count a + 1) (omega arith) f.short)));
    }
no_body n a Read old new e f = fails_sooner (λ _. n) (λ _. edge_count a + 1) old new
    (for_some old.input (λ _. n ≤ edge_count a + 1) (λ _. omega arith)) f
no_body n a Memory old new e f = f
no_body n a (ShortHeader got) old new e f = absurd f
no_body n a Magic old new e f = absurd f
no_body n a (Channels count) old new e f = absurd f
no_body n a Reserved old new e f = absurd f
no_body n a (AxisZero axis) old new e f = absurd f
no_body n a (AxisLarge axis) old new e f = absurd f
no_body n a TooMany old new e f = absurd f
no_body n a Trailing old new e f = absurd f

-- whether more than a body is left could not be found out
pub no_more : (n : ℕ) (a : Axes) (bytes : List ℕ) (old now new : DeskState) → n ≡ edge_count a → ReadsBytes n bytes old now
    → FailsAfterReading (λ _. 1) now new → FailsAfterReading (λ _. edge_count a + 1) old new
no_more n a bytes old now new e h f = fails_later n (λ _. 1) (λ _. edge_count a + 1) old now new h.after
    (for_some old.input (λ _. n + 1 ≤ edge_count a + 1) (λ _. omega arith)) f

trailing_flaw : (o : Option (List ℕ)) (a : Axes) (more : Bool) → more ≡ true → IfSome o (λ input. edge_count a ≤ length input)
    → IfSome (option_map (drop (edge_count a)) o) (λ input. more ≡ nat_lt 0 (length input))
    → IfSome o (λ input. option_map fault_of (body_flaw a input) ≡ Some Trailing)
trailing_flaw None a more found there whether = tt
trailing_flaw (Some input) a more found there whether =
    let size : length (drop (edge_count a) input) ≡ length input - edge_count a = length-drop (edge_count a) input in
    let long : edge_count a < length input = grind (arith, nat_tests) in
    ap (option_map fault_of) (too_long a input long)

-- more than a body was left
pub trailing : (n : ℕ) (a : Axes) (bytes : List ℕ) (more : Bool) (old now new : DeskState) → n ≡ edge_count a → more ≡ true
    → ReadsBytes n bytes old now → FindsMore more now new → FindsBadBody a Trailing old new
trailing n a bytes more old now new e found h m =
    let moved : now ≡ taken (edge_count a) old = h.after ∙ ap (λ (k : ℕ). taken k old) e in
    record {
      possible = some_zeros (edge_count a + 1) (long_body a);
      flaw = trailing_flaw old.input a more found (subst (λ (k : ℕ). IfSome old.input (λ input. k ≤ length input)) e h.there)
          (left_of (edge_count a) old now (λ input. more ≡ nat_lt 0 (length input)) moved m.whether);
      after = m.after ∙ (ap (taken 1) moved ∙ taken-taken (edge_count a) 1 old);
    }

exact_length : (o : Option (List ℕ)) (n : ℕ) (more : Bool) → more ≡ false → IfSome o (λ input. n ≤ length input)
    → IfSome (option_map (drop n) o) (λ input. more ≡ nat_lt 0 (length input)) → IfSome o (λ input. length input ≡ n)
exact_length None n more none there whether = tt
exact_length (Some input) n more none there whether =
    let size : length (drop n input) ≡ length input - n = length-drop n input in
    grind (arith, nat_tests)

sound_body : (o : Option (List ℕ)) (a : Axes) (n : ℕ) → n ≡ edge_count a → IfSome o (λ input. length input ≡ n)
    → IfSome o (λ input. body_flaw a input ≡ None)
sound_body None a n e size = tt
sound_body (Some input) a n e size = no_body_flaw a input (size ∙ e)

whole_body : (o : Option (List ℕ)) (n : ℕ) (bytes : List ℕ) → IfSome o (λ input. length input ≡ n)
    → IfSome o (λ input. bytes ≡ take n input) → IfSome o (λ input. bytes ≡ input)
whole_body None n bytes size says = tt
whole_body (Some input) n bytes size says = says ∙ take_all n input (omega arith)

at_most : (o : Option (List ℕ)) (n m : ℕ) → n ≤ m → IfSome o (λ input. length input ≡ n) → IfSome o (λ input. length input ≤ m)
at_most None n m h size = tt
at_most (Some input) n m h size = omega arith

-- nothing but the body was left
pub reads_body : (n : ℕ) (bytes : List ℕ) (volume : Grid) (a : Axes) (more : Bool) (old now new : DeskState) → n ≡ edge_count a
    → more ≡ false → volume ≡ record { axes = a; bytes = bytes } → ReadsBytes n bytes old now → FindsMore more now new
    → ReadsBody a volume old new
reads_body n bytes volume a more old now new e none made h m =
    let size : IfSome old.input (λ input. length input ≡ n) =
    exact_length old.input n more none h.there (left_of n old now (λ input. more ≡ nat_lt 0 (length input)) h.after m.whether) in
    let body : IfSome old.input (λ input. bytes ≡ input) = whole_body old.input n bytes size h.says in
    record {
      axes_are = ap (λ (v : Grid). v.axes) made;
      sound = sound_body old.input a n e size;
      says = subst (λ (v : Grid). IfSome old.input (λ input. v.bytes ≡ input)) (sym made) body;
      after = m.after
          ∙ (ap (taken 1) h.after ∙ (taken-taken n 1 old ∙ taken-all old (n + 1) (at_most old.input n (n + 1) (omega arith) size)));
    }
