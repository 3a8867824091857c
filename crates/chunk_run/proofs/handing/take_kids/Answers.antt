use Rattle.std.proofs.Common.{◌≡◌, ◌+◌, ◌<◌, [], ◌∷◌, ◌++◌, get_or, Some, None, IsSome, refl, sym, ap, ◌∙◌, subst, arith}
use Rattle.std.specs.Prelude.{slice_set}
use Rattle.std.proofs.lemmas.List.{map-append}
use Rattle.agglo_model.specs.Cutting.{Chunking, child_count, child}
use Rattle.parent_join.specs.Kids.{graphs_of}
use Rattle.chunk_run.specs.Turns.{AreTaken}
use Rattle.chunk_run.proofs.Taking.{waits_inside, none_taken, next_waits, next_taken}
use Rattle.chunk_run.proofs.handing.take_kids.Goals as goal

pub loop-i-init : goal.loop-i-init
loop-i-init c =
    subst (λ kids. AreTaken c.args.cutting.now c.args.m 0 c.args.waiting.now c.args.waiting.now (graphs_of kids))
    (sym c.new-kids.ensures.items) (none_taken c.args.cutting.now c.args.m c.args.waiting.now)

pub bounds-waiting-node : goal.bounds-waiting-node
bounds-waiting-node c =
    let t : Chunking = c.args.cutting.now in
    let inside : c.loop-i.i < child_count t c.args.m = omega (arith, c.child_count-i-end.ensures.value) in
    let there = c.requires.there c.loop-i.i inside in
    let waits = next_waits t c.child_count-i-end.ensures.cutting c.args.m c.requires.node c.loop-i.i inside c.args.waiting.now
    c.loop-i.waiting (graphs_of c.loop-i.kids.items) c.loop-i.invariant there.0 there.1 in
    omega (arith, waits_inside c.loop-i.waiting (child t c.args.m c.loop-i.i) there.0 waits, c.child-node.ensures.value)

pub unwrap-graph-requires : goal.unwrap-graph-requires
unwrap-graph-requires c =
    let t : Chunking = c.args.cutting.now in
    let inside : c.loop-i.i < child_count t c.args.m = omega (arith, c.child_count-i-end.ensures.value) in
    let there = c.requires.there c.loop-i.i inside in
    let waits = next_waits t c.child_count-i-end.ensures.cutting c.args.m c.requires.node c.loop-i.i inside c.args.waiting.now
    c.loop-i.waiting (graphs_of c.loop-i.kids.items) c.loop-i.invariant there.0 there.1 in
    let here : c.take.result ≡ Some there.0 =
    c.take.ensures.value ∙ ap (λ n. get_or c.loop-i.waiting n c.index-waiting-node.result) c.child-node.ensures.value
    ∙ waits c.index-waiting-node.result in
    subst IsSome (sym here) refl

pub loop-i-preserved : goal.loop-i-preserved
loop-i-preserved c =
    let t : Chunking = c.args.cutting.now in
    let inside : c.loop-i.i < child_count t c.args.m = omega (arith, c.child_count-i-end.ensures.value) in
    let there = c.requires.there c.loop-i.i inside in
    let kids = graphs_of c.loop-i.kids.items in
    let waits = next_waits t c.child_count-i-end.ensures.cutting c.args.m c.requires.node c.loop-i.i inside c.args.waiting.now
    c.loop-i.waiting kids c.loop-i.invariant there.0 there.1 in
    let graph : Some c.unwrap-graph.result ≡ Some there.0 =
    sym c.unwrap-graph.ensures ∙ c.take.ensures.value
    ∙ ap (λ n. get_or c.loop-i.waiting n c.index-waiting-node.result) c.child-node.ensures.value
    ∙ waits c.index-waiting-node.result in
    let own : c.unwrap-graph.result ≡ there.0 = cc in
    let list : graphs_of c.push.new.self.items ≡ kids ++ there.0 ∷ [] =
    ap graphs_of c.in_ok-push.ensures.items
    ∙ map-append (λ kid. kid.graph) c.loop-i.kids.items (record { node = c.child-node.result; graph = c.unwrap-graph.result } ∷ [])
    ∙ ap (λ graph. kids ++ graph ∷ []) own in
    let taken = next_taken t c.child_count-i-end.ensures.cutting c.args.m c.requires.node c.loop-i.i inside c.args.waiting.now
    c.loop-i.waiting kids c.loop-i.invariant there.0 there.1 in
    subst (λ l. AreTaken t c.args.m (c.loop-i.i + 1) c.args.waiting.now l (graphs_of c.push.new.self.items))
    (λ i. slice_set c.loop-i.waiting (sym c.child-node.ensures.value i) (sym c.take.ensures.after i))
    (subst (λ l. AreTaken t c.args.m (c.loop-i.i + 1) c.args.waiting.now (slice_set c.loop-i.waiting (child t c.args.m c.loop-i.i) None) l) (sym list) taken)

pub returns : goal.returns
returns c =
    let end : c.loop-i.i ≡ child_count c.args.cutting.now c.args.m = omega (arith, c.child_count-i-end.ensures.value) in
    subst (λ n. AreTaken c.args.cutting.now c.args.m n c.args.waiting.now c.loop-i.waiting (graphs_of c.loop-i.kids.items))
    end c.loop-i.invariant
