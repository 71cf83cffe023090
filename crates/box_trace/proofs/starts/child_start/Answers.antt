use Rattle.std.proofs.Common.{ap, subst, ◌∙◌, ℕ}
use Rattle.facts.specs.declared.fact.Fact.{Fact}
use Rattle.facts.specs.declared.fact.Fact.TheVariants as fact
use Rattle.derivation.specs.Derivations.{At}
use Rattle.derivation.specs.Rounds.{Improves}
use Rattle.cert_checker.specs.declared.given.Given.TheVariants as given
use Rattle.box_trace.specs.Tables.{known_at}
use Rattle.box_trace.specs.declared.known.Known.{Known}
use Rattle.box_trace.specs.declared.log.Log.{Log}
use Rattle.box_trace.proofs.Logged.{ComesGiven, comes_given, comes_improves}
use Rattle.box_trace.proofs.Rows.{same_known, same_rows}
use Rattle.box_trace.proofs.Started.{begins_below}
use Rattle.box_trace.specs.Rounds.{IsStepIn}
use Rattle.box_trace.proofs.Added.{gives_none, gives_more, same_steps}
use Rattle.box_trace.proofs.starts.child_start.Goals as goal

pub come-requires-clause-rows : goal.come-requires-clause-rows
come-requires-clause-rows c = same_rows c.args.uni.now c.args.parent.now c.begin-log.result.known
    (ap (λ (k : Known). k.rows.items) c.begin-log.ensures.known
    ∙ c.in_ok-known.ensures.rows) (ap (λ (k : Known). k.closed) c.begin-log.ensures.known
    ∙ c.in_ok-known.ensures.unsaid) c.requires.rows

pub returns-clause-improves : goal.returns-clause-improves
returns-clause-improves c =
    let u = c.args.uni.now in
    let f : Fact = fact.Bnd c.args.piece.0 c.args.piece.1 in
    let old : Log = c.begin-log.result in
    let same = ap (λ (k : Known). k.rows.items) c.begin-log.ensures.known
    ∙ c.in_ok-known.ensures.rows in
    let new = c.come.new.self in
    let i = comes_improves u old new c.given-source.result.rule c.given-source.result.arg
    c.given-source.result.premises f
    (same_rows u c.args.parent.now old.known same (ap (λ (k : Known). k.closed)
    c.begin-log.ensures.known ∙ c.in_ok-known.ensures.unsaid) c.requires.rows).proper
    c.in_ok-_piece.ensures in (
      i.0,
      subst (λ (at : At). Improves at (known_at u new.known) f i.0)
          (same_known u c.args.parent.now old.known same) i.1,
    )

pub returns-clause-begins : goal.returns-clause-begins
returns-clause-begins c =
    let u = c.args.uni.now in
    let f : Fact = fact.Bnd c.args.piece.0 c.args.piece.1 in
    let old : Log = c.begin-log.result in
    let same = ap (λ (k : Known). k.rows.items) c.begin-log.ensures.known
    ∙ c.in_ok-known.ensures.rows in
    let new = c.come.new.self in
    let s = c.given-source in
    let come : ComesGiven u old given.Piece 0 f new =
    comes_given u old s.result.rule s.result.arg s.result.premises f new given.Piece 0
    s.ensures.rule s.ensures.arg s.ensures.premises c.in_ok-_piece.ensures in
    begins_below u (c.args.piece.0, c.args.piece.1) c.args.parent.now c.args.first old new same
    c.begin-log.ensures.steps c.begin-log.ensures.first (ap (λ (k : Known). k.closed)
    c.begin-log.ensures.known ∙ c.in_ok-known.ensures.unsaid) c.requires.rows c.requires.variable
    come

pub returns-clause-gives : goal.returns-clause-gives
returns-clause-gives c =
    let u = c.args.uni.now in
    let Old : ℕ → Type 0 = IsStepIn u c.args.parent.now in
    let f : Fact = fact.Bnd c.args.piece.0 c.args.piece.1 in
    let old : Log = c.begin-log.result in
    let same = ap (λ (k : Known). k.rows.items) c.begin-log.ensures.known
    ∙ c.in_ok-known.ensures.rows in
    let new = c.come.new.self in
    let s = c.given-source in
    let come : ComesGiven u old given.Piece 0 f new =
    comes_given u old s.result.rule s.result.arg s.result.premises f new given.Piece 0
    s.ensures.rule s.ensures.arg s.ensures.premises c.in_ok-_piece.ensures in
    gives_more u Old 0 c.args.first given.Piece 0 old new f c.begin-log.ensures.first
    (gives_none u Old c.args.first old c.begin-log.ensures.steps
    (same_steps u c.args.parent.now old.known same)) come
