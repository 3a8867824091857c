-- The lines of merges, one after another.
use Rattle.std.proofs.Common.{◌≡◌, ℕ, ◌+◌, ◌<◌, List, [], ◌∷◌, ◌++◌, length, get_or, take, append_assoc, sym, ap, ◌∙◌}
use Rattle.std.specs.List.{flat_map}
use Rattle.std.proofs.lemmas.List.{flat_map_more, take_more}
use Rattle.agglo_model.specs.Greedy.{Merge}
use Rattle.agglo_program.specs.Shown.{names_part, contact_part, merge_line}

-- a text that gains the two parts of a line
pub gains_merge : (merges : List Merge) (i : ℕ) (m : Merge) (start text names whole : List ℕ) → i < length merges
    → m ≡ get_or merges i m → text ≡ start ++ flat_map merge_line (take i merges) → names ≡ text ++ names_part m
    → whole ≡ names ++ contact_part m.contact → whole ≡ start ++ flat_map merge_line (take (i + 1) merges)
gains_merge merges i m start text names whole below is so_far e f =
    f ∙ ap (λ t. t ++ contact_part m.contact) (e ∙ ap (λ t. t ++ names_part m) so_far)
    ∙ append_assoc (start ++ flat_map merge_line (take i merges)) (names_part m) (contact_part m.contact)
    ∙ flat_map_more merge_line start (take i merges) m
    ∙ ap (λ (l : List Merge). start ++ flat_map merge_line (take i merges ++ l)) (ap (λ (x : Merge). x ∷ []) is)
    ∙ ap (λ (l : List Merge). start ++ flat_map merge_line l) (sym (take_more merges i m below))
