-- Laws of bytes that callers of this crate cite.
use Rattle.std.proofs.Common.{ℕ, ◌<◌, ◌≤◌, List, ◌++◌, get_or, replicate, arith}
use Rattle.std.specs.Prelude.{All}
use Rattle.std.proofs.lemmas.List.Elements.{All-append, All-replicate}
use Rattle.std.proofs.lemmas.Grind.{get_or_default_zero}
use Rattle.seg_io.specs.Bytes.{SomeBytes}

-- the numbers of a list that holds bytes
pub bytes_fit : (bytes : List ℕ) → ((k : ℕ) → get_or bytes k 0 ≤ 255) → All (λ byte. byte < 256) bytes
bytes_fit bytes each k d inside = omega (arith, get_or_default_zero bytes k d inside, each k)

pub some_zeros : {Holds : List ℕ → Type 0} (n : ℕ) → Holds (replicate n 0) → SomeBytes Holds
some_zeros n holds = record { bytes = replicate n 0; fit = All-replicate (λ byte. byte < 256) n 0 (omega arith); holds = holds }

-- the same bytes, of which something else holds
pub same_bytes : {First Then : List ℕ → Type 0} → ((bytes : List ℕ) → First bytes → Then bytes) → SomeBytes First → SomeBytes Then
same_bytes turn some = record { bytes = some.bytes; fit = some.fit; holds = turn some.bytes some.holds }

-- bytes one after the other
pub joined_bytes : {First Later Whole : List ℕ → Type 0} → ((first later : List ℕ) → First first → Later later → Whole (first ++ later))
    → SomeBytes First → SomeBytes Later → SomeBytes Whole
joined_bytes join first later = record {
  bytes = first.bytes ++ later.bytes;
  fit = All-append (λ byte. byte < 256) first.bytes later.bytes first.fit later.fit;
  holds = join first.bytes later.bytes first.holds later.holds;
}
