use Rattle.std.specs.Prelude.{◌≡◌, Option, Some, None, IfNone, IfSome, refl}
use Rattle.std.proofs.Common.{sym, subst}
use Rattle.facts.specs.declared.fact.Fact.{Fact}
use Rattle.derivation.specs.Exists.{joined}
use Rattle.tree_certificates.specs.Coming.{with_by}
use Rattle.box_trace.specs.declared.known.Cited.{Cited}
use Rattle.box_trace.specs.Tables.{fact_of, number_of, number_or}
use Rattle.box_trace.proofs.log.kept.Goals as goal

none_map : {P Q : Type 0} (r : Option Fact) → IfNone r P → (P → Q) → IfNone r Q
none_map None p f = f p
none_map (Some k) p f = tt

pub met-requires : goal.met-requires
met-requires c = c.requires c.in-Some.row c.in-Some.is

pub returns-in-Some-clause-none : goal.returns-in-Some-clause-none
returns-in-Some-clause-none c =
    none_map c.met.result c.met.ensures.none (λ s. (c.in-Some.row, c.in-Some.is, s))

pub returns-in-Some-clause-some : goal.returns-in-Some-clause-some
returns-in-Some-clause-some c =
    subst (λ (o : Option Cited). IfSome c.met.result (λ k. k ≡ joined (fact_of o) c.args.c))
    (sym c.in-Some.is) c.met.ensures.some

pub returns-in-Some-clause-with : goal.returns-in-Some-clause-with
returns-in-Some-clause-with c = subst (λ (o : Option Cited). IfSome c.met.result (λ k. number_of o
    ≡ with_by (fact_of o) (number_or o) c.args.c)) (sym c.in-Some.is) c.met.ensures.with

pub returns-in-None-clause-some : goal.returns-in-None-clause-some
returns-in-None-clause-some c =
    subst (λ (o : Option Cited). c.args.c ≡ joined (fact_of o) c.args.c) (sym c.in-None.is) refl

pub returns-in-None-clause-with : goal.returns-in-None-clause-with
returns-in-None-clause-with c = subst (λ (o : Option Cited). number_of o
    ≡ with_by (fact_of o) (number_or o) c.args.c) (sym c.in-None.is) refl
