-- Lists of regions that gain regions: their names and faces, and their order.
use Rattle.std.proofs.Common.{◌≡◌, ◌≢◌, inl, inr, ℕ, ◌+◌, ◌<◌, ◌≤◌, List, [], ◌∷◌, ◌++◌, length, get_or, take, refl, sym, ap, ◌∙◌, subst, append_assoc}
use Rattle.std.specs.Prelude.{IsPermutation}
use Rattle.std.specs.List.Sorted.{IsNonDecreasingBy}
use Rattle.std.proofs.lemmas.List.{take_more}
use Rattle.std.proofs.lemmas.List.Elements.{All-contains}
use Rattle.std.proofs.lemmas.List.Sorted.{All-permutation}
use Rattle.agglo_model.specs.RegionGraph.{Region}
use Rattle.agglo_model.proofs.Members.{All-from_contains}
use Rattle.region_graph.specs.Lists.{AreKeyed, AreNamed, SameRegions, Gains, with_faces_of}
use Rattle.region_graph.proofs.Gaining.{none_keyed, keyed_more, low_before}
use Rattle.region_graph.proofs.RegionLists.{AgreeInTests, same_regions, agree-permutation, agree-append, agree-refl, agree-trans, agree-joined}

-- a list that gained a region has the names and faces of the list with the region after it
pub gained_agree : (r : Region) (before after : List Region) → Gains (λ s. s.name) with_faces_of r before after
    → AgreeInTests (before ++ r ∷ []) after
gained_agree r before after (inl taken) =
    let joined = with_faces_of taken.last r in
    let pieces = agree-append taken.others taken.others (taken.last ∷ r ∷ []) (joined ∷ []) (agree-refl taken.others)
    (agree-joined taken.last r joined (sym taken.same_key) refl) in
    let start : taken.others ++ taken.last ∷ r ∷ [] ≡ before ++ r ∷ [] =
    sym (append_assoc taken.others (taken.last ∷ []) (r ∷ [])) ∙ ap (λ rs. rs ++ r ∷ []) (sym taken.was) in
    subst (λ rs. AgreeInTests rs after) start (subst (AgreeInTests (taken.others ++ taken.last ∷ r ∷ [])) (sym taken.is) pieces)
gained_agree r before after (inr appended) =
    subst (AgreeInTests (before ++ r ∷ [])) (sym appended.is) (agree-refl (before ++ r ∷ []))

-- ---- a list of regions put together so far

pub record AreTogether (done joined : List Region) : Type 0 where
  pub keyed : AreKeyed (λ r. r.name) done joined
  pub agree : AgreeInTests done joined

pub none_together : AreTogether [] []
none_together = record { keyed = none_keyed (λ (r : Region). r.name); agree = agree-refl [] }

-- the next of a sorted list
pub together_next : (sorted : List Region) (k : ℕ) (joined after : List Region) (r : Region) → k < length sorted
    → r ≡ get_or sorted k r → IsNonDecreasingBy (λ s. s.name) sorted → AreTogether (take k sorted) joined
    → Gains (λ s. s.name) with_faces_of r joined after → AreTogether (take (k + 1) sorted) after
together_next sorted k joined after r below here up so_far gained =
    subst (λ rs. AreTogether rs after) (sym (take_more sorted k r below ∙ ap (λ s. take k sorted ++ s ∷ []) (sym here))) (record {
      keyed = keyed_more (λ (s : Region). s.name) with_faces_of r (take k sorted) joined after (λ last. refl) so_far.keyed
          (λ s inside. subst (λ (q : Region). s.name ≤ q.name) (sym here) (low_before (λ (q : Region). q.name) sorted k r up below s inside)) gained;
      agree = agree-trans (take k sorted ++ r ∷ []) (joined ++ r ∷ []) after
          (agree-append (take k sorted) joined (r ∷ []) (r ∷ []) so_far.agree (agree-refl (r ∷ []))) (gained_agree r joined after gained);
    })

-- ---- all of them

pub together-named : (regions done joined : List Region) → AreTogether done joined → IsPermutation regions done
    → AreNamed regions → AreNamed joined
together-named regions done joined all moved named = All-from_contains (λ r. r.name ≢ 0) joined (λ r inside none.
    let source = all.keyed.from r inside in
    All-contains (λ s. s.name ≢ 0) done source.0 (All-permutation (λ s. s.name ≢ 0) regions done moved named) source.1
    (source.2 ∙ none))

pub together-same : (regions done joined : List Region) → AreTogether done joined → IsPermutation regions done
    → SameRegions regions joined
together-same regions done joined all moved =
    same_regions regions joined (agree-trans regions done joined (agree-permutation regions done moved) all.agree)
