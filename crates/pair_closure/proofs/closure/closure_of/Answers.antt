use Rattle.std.proofs.Common.{Ok, Err, ap, subst}
use Rattle.std.specs.Option.{IfSome}
use Rattle.pair_closure.specs.Reached.{Has, IsListOf}
use Rattle.pair_closure.specs.Closure.{IsPair, AreKnown, IsTaken, AreRising}
use Rattle.pair_closure.proofs.Known.{pairs_known}
use Rattle.pair_closure.proofs.Leading.{taken_known}
use Rattle.pair_closure.proofs.Closing.{each_once}
use Rattle.pair_closure.proofs.Whole.{closed, many_taken, many_pairs, not_many, known_sides}
use Rattle.pair_closure.proofs.Behind.{others_of, relisted, begins_by}
use Rattle.pair_closure.proofs.closure.closure_of.Goals as goal

pub returns-in_default-clause-many : goal.returns-in_default-clause-many
returns-in_default-clause-many c _ = many_pairs c.args.script.now c.args.starts.now
    (c.in_ok-pairs.ensures.many (ap Ok c.in_default.is))

pub close-requires-clause-known : goal.close-requires-clause-known
close-requires-clause-known c p h =
    let all : IsListOf (IsPair c.args.script.now c.args.starts.now) c.in-Some.pairs =
    subst (λ o. IfSome o (IsListOf (IsPair c.args.script.now c.args.starts.now))) c.in-Some.is
    c.in_ok-pairs.ensures.all in
    pairs_known c.args.script.now c.laws.ensures.ordered c.args.starts.now
    c.requires p (all.only p h)

pub in_order-requires-clause-others : goal.in_order-requires-clause-others
in_order-requires-clause-others c =
    let all : IsListOf (IsPair c.args.script.now c.args.starts.now) c.in-Some.pairs =
    subst (λ o. IfSome o (IsListOf (IsPair c.args.script.now c.args.starts.now))) c.in-Some.is
    c.in_ok-pairs.ensures.all in
    let known : AreKnown c.args.script.now c.in-Some.pairs = (λ p h. pairs_known c.args.script.now
    c.laws.ensures.ordered c.args.starts.now c.requires p (all.only p h)) in
    others_of c.args.script.now c.close.new.all (Has c.in-Some.pairs) c.in-Ok.ensures.kept
    c.in-Ok.ensures.all (taken_known c.args.script.now c.in-Some.pairs c.laws.ensures.ordered known)

pub returns-in-Ok-clause-closed : goal.returns-in-Ok-clause-closed
returns-in-Ok-clause-closed c =
    let all : IsListOf (IsPair c.args.script.now c.args.starts.now) c.in-Some.pairs =
    subst (λ o. IfSome o (IsListOf (IsPair c.args.script.now c.args.starts.now))) c.in-Some.is
    c.in_ok-pairs.ensures.all in
    let up : AreRising c.in-Some.pairs =
    subst (λ o. IfSome o AreRising) c.in-Some.is c.in_ok-pairs.ensures.rising in
    closed c.args.script.now c.args.starts.now c.in_ok-nodes-in-Ok.nodes c.in-Some.pairs
    (begins_by c.args.script.now c.in_ok-nodes-in-Ok.nodes c.in_ok-nodes-in-Ok.ensures.order)
    c.in_ok-nodes-in-Ok.ensures.order all up
    (relisted c.args.script.now c.close.new.all c.in_ok-nodes-in-Ok.nodes
    (IsTaken c.args.script.now (Has c.in-Some.pairs)) c.in_ok-nodes-in-Ok.ensures.same
    c.in-Ok.ensures.all (each_once c.in_ok-nodes-in-Ok.nodes c.laws-in-Ok.ensures.distinct))

pub returns-in-Ok-clause-few : goal.returns-in-Ok-clause-few
returns-in-Ok-clause-few c = not_many c.args.script.now c.args.starts.now c.in_ok-nodes-in-Ok.nodes
    c.in-Some.pairs (returns-in-Ok-clause-closed c) c.laws-in-Ok.ensures.short

pub returns-in-Ok-clause-known : goal.returns-in-Ok-clause-known
returns-in-Ok-clause-known c = known_sides c.args.script.now
    c.args.starts.now c.in_ok-nodes-in-Ok.nodes c.in-Some.pairs (returns-in-Ok-clause-closed c)
    (pairs_known c.args.script.now c.laws.ensures.ordered c.args.starts.now c.requires)

pub returns-in-Err-Full-clause-many : goal.returns-in-Err-Full-clause-many
returns-in-Err-Full-clause-many c _ =
    let all : IsListOf (IsPair c.args.script.now c.args.starts.now) c.in-Some.pairs =
    subst (λ o. IfSome o (IsListOf (IsPair c.args.script.now c.args.starts.now))) c.in-Some.is
    c.in_ok-pairs.ensures.all in
    many_taken c.args.script.now c.args.starts.now c.in-Some.pairs all
    (c.in-Err-Full.ensures.many (ap Err c.in-Err-Full.field-0-is))
