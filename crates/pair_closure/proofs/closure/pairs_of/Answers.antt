use Rattle.std.proofs.Common.{◌<◌, ◌≤◌, length, arith, sym, subst}
use Rattle.std.specs.Option.{IfSome}
use Rattle.pair_closure.specs.Reached.{IsListOf}
use Rattle.pair_closure.specs.Closure.{IsPair}
use Rattle.pair_closure.proofs.Known.{pairs_known}
use Rattle.pair_closure.proofs.closure.pairs_of.Goals as goal

pub sort-requires : goal.sort-requires
sort-requires c p h =
    let all : IsListOf (IsPair c.args.script.now c.args.starts.now) c.in-Some.found =
    subst (λ o. IfSome o (IsListOf (IsPair c.args.script.now c.args.starts.now))) c.in-Some.is
    c.in_ok-follow_all.ensures.all in
    let known = pairs_known c.args.script.now c.laws.ensures.ordered c.args.starts.now
    c.requires p (all.only p h) in
    let first : (p.0).0 < length c.args.script.now = known.0 in
    let second : (p.1).0 < length c.args.script.now = known.1 in
    let short : length c.args.script.now ≤ 1024 = c.laws.ensures.short in
    (omega arith, omega arith)

pub new-requires : goal.new-requires
new-requires c p h =
    let all : IsListOf (IsPair c.args.script.now c.args.starts.now) c.in-Some.found =
    subst (λ o. IfSome o (IsListOf (IsPair c.args.script.now c.args.starts.now))) c.in-Some.is
    c.in_ok-follow_all.ensures.all in
    let known = pairs_known c.args.script.now c.laws.ensures.ordered c.args.starts.now c.requires p
    (all.only p ((c.sort.ensures.same p).0 h)) in
    let first : (p.0).0 < length c.args.script.now = known.0 in
    let second : (p.1).0 < length c.args.script.now = known.1 in
    (omega (arith, c.len.ensures.len), omega (arith, c.len.ensures.len))

pub returns-in_ok-index-in-Some-clause-all : goal.returns-in_ok-index-in-Some-clause-all
returns-in_ok-index-in-Some-clause-all c =
    let all : IsListOf (IsPair c.args.script.now c.args.starts.now) c.in-Some.found =
    subst (λ o. IfSome o (IsListOf (IsPair c.args.script.now c.args.starts.now))) c.in-Some.is
    c.in_ok-follow_all.ensures.all in
    subst (IsListOf (IsPair c.args.script.now c.args.starts.now))
    (sym c.in_ok-index-in-Some.ensures)
    (record {
      only = λ p h. all.only p ((c.sort.ensures.same p).0 h);
      each = λ p i. (c.sort.ensures.same p).1 (all.each p i);
      once = c.laws-in-Some-2.ensures;
    })
