use Rattle.std.proofs.Common.{rules, ◌∙◌}
use Rattle.std.proofs.lemmas.List.Sorted.{answers_always}
use Rattle.agglo_model.specs.RegionGraph.{Region}
use Rattle.parent_join.proofs.NameSearch.{found_name}
use Rattle.parent_join.proofs.across.has_region.Goals as goal

pub returns : goal.returns
returns c =
    c.is_ok.ensures.value
    ∙ found_name c.args.regions.now c.requires c.args.name c.binary_search_by_key.result c.binary_search_by_key.ensures.bound
    (c.binary_search_by_key.ensures.position (λ (r : Region). r.name) (answers_always _ _ _ (λ f a r g called. search rules)))
