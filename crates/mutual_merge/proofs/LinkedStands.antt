-- A graph by places stands where each region has the slot of its place.
use Rattle.std.proofs.Common.{ℕ, ◌<◌, true, false, List, length, refl, subst, arith}
use Rattle.std.specs.Prelude.{Contains, replicate}
use Rattle.std.proofs.lemmas.List.{length-replicate, get_or-replicate}
use Rattle.std.proofs.lemmas.List.Elements.{All-contains, Contains-get_or}
use Rattle.agglo_model.specs.RegionGraph.{Region}
use Rattle.mutual_merge.specs.declared.links.Link.{Link}
use Rattle.mutual_merge.specs.Linked.{AreLinked, IsLink, graph_of}
use Rattle.mutual_merge.specs.Slots.{IsOpen, Stands}
use Rattle.mutual_merge.proofs.RegionPlaces.{region_place, same_place}
use Rattle.mutual_merge.proofs.Relinked.{AreSlotLinks-from_links}
use Rattle.mutual_merge.proofs.PairRounds.{linked_graph}
use Rattle.mutual_merge.proofs.OpenSlots.{open_within}

-- all of n slots are open, and no other
open_of : (n k : ℕ) → IsOpen (replicate n false) k → k < n
open_of n k is = let below = open_within (replicate n false) k is in let len = length-replicate n false in omega arith

pub linked_stands : (regions : List Region) (links : List Link) → AreLinked regions links
    → Stands (graph_of regions links) regions (replicate (length regions) false) links
linked_stands regions links linked =
    let n = length regions in
    let closed = replicate n false in
    let is_open = λ (k : ℕ) (below : k < n). get_or-replicate n k false true below in
    record {
      graph_is = linked_graph regions links linked;
      slots = record {
        one_each = length-replicate n false;
        apart = λ j k open_j open_k same.
            same_place regions j k linked.regions_ascend (open_of n j open_j) (open_of n k open_k) same;
        links_are = AreSlotLinks-from_links n links linked.links_are;
        open_ends = λ l inside live.
            let is = All-contains (IsLink n) links l linked.links_are.each inside in
            let up = is.ordered in
            let low = is.inside in
            (is_open l.a (omega arith), is_open l.b low);
      };
      regions_are = λ r. (
        λ inside. let place = region_place regions r inside in (place.0, place.1, is_open place.0 place.1, place.2),
        λ (k, below, is, same). subst (Contains regions) same (Contains-get_or regions k (record { name = 0; faces = 0 }) below),
      );
      contacts = λ past x y xy. refl;
    }
