use Rattle.std.proofs.Common.{◌≡◌, [], ◌≤◌, length, arith, refl, sym, ap, ◌∙◌, subst}
use Rattle.std.specs.Prelude.{All}
use Rattle.std.proofs.lemmas.List.{length-map}
use Rattle.pair_closure.specs.Closure.{AreKnown}
use Rattle.script_claims.specs.Facts.{goal_of}
use Rattle.script_hints.specs.declared.hint.HintList.{HintList}
use Rattle.script_hints.specs.Needs.{HasNormalBounds}
use Rattle.rule_universe.specs.Worlds.{World}
use Rattle.rewrite_hints.specs.Marks.{AreKnownSides}
use Rattle.universe.specs.Universes.{IsUniverse}
use Rattle.universe.proofs.Named.{starts_known, sides_named}
use Rattle.universe.proofs.Built.{built, universe_of}
use Rattle.universe.proofs.world.build.Goals as goal

pub closure_of-requires : goal.closure_of-requires
closure_of-requires c =
    subst (λ ns. AreKnown ns c.as_slice.result.now) (sym c.nodes.ensures)
    (subst (λ ps. AreKnown c.args.script.now.nodes ps)
    (sym (c.as_slice.ensures.value ∙ c.in_ok-starts.ensures))
    (starts_known c.args.script.now c.laws.ensures.ordered c.laws.ensures.names))

pub instances_of-requires-clause-few : goal.instances_of-requires-clause-few
instances_of-requires-clause-few c =
    let rewrites : c.as_slice-2.result.now ≡ c.args.script.now.hints.rewrites =
    c.as_slice-2.ensures ∙ ap (λ (h : HintList). h.rewrites) c.hints.ensures.value in
    let count : length c.in_ok-rows.rows.items ≡ length c.args.script.now.hints.rewrites =
    c.in_ok-rows.ensures.count ∙ ap length rewrites in
    let seen : length c.as_slice-3.result.now ≡ length c.in_ok-rows.rows.items =
    ap length c.as_slice-3.ensures.value in
    let few : length c.args.script.now.hints.rewrites ≤ 64 = c.laws.ensures.few.rewrites in
    omega arith

pub new-requires-clause-few : goal.new-requires-clause-few
new-requires-clause-few c =
    let goals = c.goals.result.now in
    let count : length c.in_ok-goals.goals.items ≡ length goals =
    ap length c.in_ok-goals.ensures ∙ length-map goals goal_of in
    let same : length goals ≡ length c.args.script.now.goals = ap length c.goals.ensures.value in
    let few = c.laws.ensures.goals in
    omega (arith, count, same, few)

pub new-requires-clause-whole : goal.new-requires-clause-whole
new-requires-clause-whole c =
    let u : World = record {
      nodes = c.in_ok-nodes.field-0.nodes;
      pairs = c.in_ok-nodes.field-0.pairs;
      goals = c.in_ok-goals.goals.items;
      hypotheses = [];
      hints = c.in_ok-rows.rows.items;
      instances = c.in_ok-instances.instances.items;
    } in
    built c.args.script.now u c.laws.ensures.names c.laws-2.ensures.ordered
    c.in_ok-nodes.ensures.known c.in_ok-nodes.ensures.short []
    (universe_of c.args.script.now u c.nodes.result.now c.nodes-2.result.now c.as_slice.result.now
    c.as_slice-2.result.now c.as_slice-3.result.now c.goals.result.now
    c.nodes.ensures (c.as_slice.ensures.value
    ∙ c.in_ok-starts.ensures) c.in_ok-nodes.ensures.closed c.nodes-2.ensures (c.as_slice-2.ensures
    ∙ ap (λ (h : HintList). h.rewrites) c.hints.ensures.value) c.in_ok-rows.ensures
    c.as_slice-3.ensures.value c.in_ok-instances.ensures.exactly c.in_ok-instances.ensures.order
    c.goals.ensures.value c.in_ok-goals.ensures refl)

pub returns-clause-universe : goal.returns-clause-universe
returns-clause-universe c =
    let u : World = record {
      nodes = c.in_ok-nodes.field-0.nodes;
      pairs = c.in_ok-nodes.field-0.pairs;
      goals = c.in_ok-goals.goals.items;
      hypotheses = [];
      hints = c.in_ok-rows.rows.items;
      instances = c.in_ok-instances.instances.items;
    } in
    subst (IsUniverse c.args.script.now [])
    (sym (c.in_ok-ordered.ensures ∙ c.in_ok-universe.ensures))
    (universe_of c.args.script.now u c.nodes.result.now c.nodes-2.result.now c.as_slice.result.now
    c.as_slice-2.result.now c.as_slice-3.result.now c.goals.result.now
    c.nodes.ensures (c.as_slice.ensures.value
    ∙ c.in_ok-starts.ensures) c.in_ok-nodes.ensures.closed c.nodes-2.ensures (c.as_slice-2.ensures
    ∙ ap (λ (h : HintList). h.rewrites) c.hints.ensures.value) c.in_ok-rows.ensures
    c.as_slice-3.ensures.value c.in_ok-instances.ensures.exactly c.in_ok-instances.ensures.order
    c.goals.ensures.value c.in_ok-goals.ensures refl)

pub rows_of-requires-clause-known : goal.rows_of-requires-clause-known
rows_of-requires-clause-known c =
    let rewrites : c.as_slice-2.result.now ≡ c.args.script.now.hints.rewrites =
    c.as_slice-2.ensures ∙ ap (λ (h : HintList). h.rewrites) c.hints.ensures.value in
    subst (λ ns. AreKnownSides ns c.as_slice-2.result.now)
    (sym c.nodes-2.ensures) (subst (AreKnownSides c.args.script.now.nodes) (sym rewrites)
    (sides_named c.args.script.now c.laws.ensures.names))

pub rows_of-requires-clause-normal : goal.rows_of-requires-clause-normal
rows_of-requires-clause-normal c =
    subst (All HasNormalBounds) (sym c.as_slice-2.ensures) c.hints.ensures.normal
