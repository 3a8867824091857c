-- The graph after each region is merged with its mate: survivors, and links that moved to those.
use Rattle.std.proofs.Common.{◌≡◌, ℕ, ◌<◌, List, [], ◌∷◌, length, get_or, refl, ap, ◌∙◌, arith}
use Rattle.std.specs.Prelude.{All}
use Rattle.std.proofs.lemmas.List.Elements.{All-head, All-tail, All-contains}
use Rattle.agglo_model.specs.RegionGraph.{Region, contact_in}
use Rattle.mutual_merge.specs.declared.links.Link.{Link}
use Rattle.mutual_merge.specs.Linked.{AreLinked, IsLink, edges_by, name_at}
use Rattle.mutual_merge.specs.Merged.{AreMerged, AreSurvivors, survivor_of}
use Rattle.mutual_merge.specs.Moved.{AreRelinked}
use Rattle.mutual_merge.proofs.Relinked.{live_edges-le}

-- links are the same edges by names that agree at the places of regions
pub edges_by-agree : (n : ℕ) (f g : ℕ → ℕ) (ls : List Link) → All (IsLink n) ls → ((k : ℕ) → k < n → f k ≡ g k)
    → edges_by f ls ≡ edges_by g ls
edges_by-agree n f g [] each same = refl
edges_by-agree n f g (l ∷ ls) each same =
    let here = All-head (IsLink n) l ls each in
    let up = here.ordered in
    let low = here.inside in
    let a = same l.a (omega arith) in
    let b = same l.b low in
    let rest = edges_by-agree n f g ls (All-tail (IsLink n) l ls each) same in
    λ i. record { a = a i; b = b i; contact = l.contact } ∷ rest i

pub AreMerged-from : (regions : List Region) (links : List Link) (mates : List ℕ) (kept : List Region) (places : List ℕ)
    (joined : List Link) → AreLinked regions links → AreSurvivors regions mates kept places → AreRelinked links places joined
    → AreMerged regions links mates kept joined
AreMerged-from regions links mates kept places joined linked survivors relinked =
    let fewer = live_edges-le links in
    let most = relinked.moved.within in
    let there = λ (k : ℕ). name_at kept (get_or places k 0) in
    let after = λ (k : ℕ). name_at regions (survivor_of mates k) in
    record {
      linked = record {
        regions_ascend = survivors.ascend;
        fit = let f = linked.fit in let few = survivors.few in omega arith;
        links_ascend = relinked.ascend;
        links_are = record {
          each = relinked.moved.each (length kept) (λ l inside live.
              let is = All-contains (IsLink (length regions)) links l linked.links_are.each inside in
              let up = is.ordered in
              let low = is.inside in
              (survivors.inside l.a (omega arith), survivors.inside l.b low));
          within = let w = linked.links_are.within in omega arith;
        };
      };
      places = places;
      survivors = survivors;
      fewer = omega arith;
      contacts = λ past x y xy.
          relinked.moved.contacts (name_at kept) past x y xy
          ∙ ap (λ es. contact_in past es x y)
          (edges_by-agree (length regions) there after links linked.links_are.each survivors.named);
    }
