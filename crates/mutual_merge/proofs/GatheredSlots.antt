-- Slots and links stay their graph when links are added up.
use Rattle.std.proofs.Common.{◌<◌, List, Bool, length, sym, ap, ◌∙◌, subst, arith}
use Rattle.std.specs.Prelude.{Contains}
use Rattle.agglo_model.specs.RegionGraph.{Region, RegionGraph}
use Rattle.mutual_merge.specs.declared.links.Link.{Link}
use Rattle.mutual_merge.specs.Linked.{name_at}
use Rattle.mutual_merge.specs.Slots.{AreGathered, IsLive, IsOpen, Stands, nth_link}
use Rattle.mutual_merge.proofs.SlotContacts.{index_of, Contains-nth_link}

module _ (graph : RegionGraph) (regions : List Region) (closed : List Bool) (links new_links : List Link)
    (stands : Stands graph regions closed links) (are : AreGathered links new_links) where
  open_ends : (l : Link) → Contains new_links l → IsLive l → IsOpen closed l.a × IsOpen closed l.b
  open_ends l inside live =
      let found = index_of new_links l inside in
      let j = found.0 in
      let low : j < length links = let len = are.one_each in omega (arith, found.1) in
      let new_live : IsLive (nth_link new_links j) = subst IsLive (sym found.2) live in
      let same = are.same_ends j low new_live in
      let old_live : IsLive (nth_link links j) = λ e. new_live (same.0 ∙ e ∙ sym same.1) in
      let ends = stands.slots.open_ends (nth_link links j) (Contains-nth_link links j low) old_live in (
        subst (IsOpen closed) (sym same.0 ∙ ap (λ m. m.a) found.2) ends.0,
        subst (IsOpen closed) (sym same.1 ∙ ap (λ m. m.b) found.2) ends.1,
      )

  pub gathered : Stands graph regions closed new_links
  gathered = record {
    graph_is = stands.graph_is;
    slots = record {
      one_each = stands.slots.one_each;
      apart = stands.slots.apart;
      links_are = record {
        each = are.inside (length regions) stands.slots.links_are.each;
        within = let fewer = are.fewer in let w = stands.slots.links_are.within in omega arith;
      };
      open_ends = open_ends;
    };
    regions_are = stands.regions_are;
    contacts = λ past x y xy. stands.contacts past x y xy ∙ sym (are.contacts (name_at regions) past x y xy);
  }
