use Rattle.std.proofs.Common.{arith, ◌≡◌, ◌+◌, ◌<◌, Some, length, sym, ap, subst, ◌∙◌, slice_get}
use Rattle.std.proofs.Common.{[], take, None}
use Rattle.fx_model.specs.declared.Node.TheVariants as node
use Rattle.interval.specs.declared.interval.Interval.{Interval}
use Rattle.interval.specs.Results.{whole_interval}
use Rattle.facts.specs.declared.fact.Fact.{Fact}
use Rattle.facts.specs.declared.fact.Fact.TheVariants as fact
use Rattle.derivation.specs.Known.{IsGiven}
use Rattle.derivation.specs.Rounds.{IsBlank}
use Rattle.derivation.specs.Begun.{FirstHypotheses, FirstLines}
use Rattle.derivation.proofs.Begun.{gather_blank, gather_less, gather_hypothesis, gather_line}
use Rattle.derivation.proofs.Begun.{lines_none, lines_skip}
use Rattle.derivation.proofs.Parts.{none_some}
use Rattle.saturate.specs.Universes.{setting_of}
use Rattle.cert_checker.specs.declared.given.Given.TheVariants as given
use Rattle.cert_checker.specs.Given.{given_number}
use Rattle.box_trace.specs.declared.known.Known.{Known}
use Rattle.box_trace.specs.Tables.{known_at, step_at}
use Rattle.box_trace.specs.Rounds.{IsOfParent, variable_count, most_given}
use Rattle.box_trace.proofs.RoundsLaws.{given_before}
use Rattle.box_trace.proofs.Counted.{count_variable, count_other, count_all}
use Rattle.box_trace.proofs.Added.{gives_none, gives_more, gives_slack, no_step}
use Rattle.box_trace.proofs.Logged.{ComesGiven, comes_given, comes_improves}
use Rattle.box_trace.proofs.Started.{blank_rows, begins_blank, begins_hypothesis, begins_line}
use Rattle.box_trace.proofs.Started.{begins_slack}
use Rattle.box_trace.proofs.starts.root_start.Goals as goal
use Rattle.box_trace.proofs.starts.root_start.Goals.{in-Var+in_ok-_variable, in_default}

pub loop-k-init : goal.loop-k-init
loop-k-init c =
    let u = c.args.uni.now in
    let log = c.begin-log.result in
    let e = c.begin-log.ensures.known in
    let b : IsBlank (known_at u log.known) =
    subst (λ (k : Known). IsBlank (known_at u k)) (sym e) c.in_ok-known.ensures.blank in
    record {
      gathered =
          gather_blank (setting_of u) (IsGiven (setting_of u)) (FirstHypotheses u.hypotheses 0)
          (known_at u log.known) b (λ x w. (let l : w.0 < 0 = w.1 in omega arith));
      begins = begins_blank u c.args.first log c.begin-log.ensures.first c.begin-log.ensures.steps
          (blank_rows u log.known (ap (λ (k : Known). length k.rows.items) e
          ∙ c.in_ok-known.ensures.rows) (ap (λ (k : Known). k.closed) e
          ∙ c.in_ok-known.ensures.unsaid) b) b;
      gives = gives_none u (IsOfParent u None) c.args.first log c.begin-log.ensures.steps
          (λ n w. absurd (none_some n (step_at u log.known w.0)
          (no_step u log.known w.0 (b w.0)) w.1));
    }

pub loop-k-preserved : goal.loop-k-preserved
loop-k-preserved c =
    let u = c.args.uni.now in
    let old = c.loop-k.log in
    let new = c.come.new.self in
    let f = c.hypothesis-fact.result in
    let s = c.given-source in
    let come : ComesGiven u old given.Hypothesis c.loop-k.k f new =
    comes_given u old s.result.rule s.result.arg s.result.premises f new given.Hypothesis c.loop-k.k
    s.ensures.rule s.ensures.arg s.ensures.premises c.in_ok-_hypothesis.ensures in
    let i = comes_improves u old new (given_number given.Hypothesis) c.loop-k.k [] f
    c.loop-k.invariant.begins.rows.proper come in
    record {
      gathered = gather_hypothesis (setting_of u) c.loop-k.k (known_at u old.known)
          (known_at u new.known) f i.0 c.hypothesis-fact.ensures c.loop-k.invariant.gathered i.1;
      begins = begins_hypothesis u c.args.first c.loop-k.k old new f c.hypothesis-fact.ensures
          c.loop-k.invariant.begins come;
      gives = gives_more u (IsOfParent u None) c.loop-k.k c.args.first given.Hypothesis c.loop-k.k
          old new f c.loop-k.invariant.begins.first_is c.loop-k.invariant.gives come;
    }

pub loop-n-init : goal.loop-n-init
loop-n-init c =
    let u = c.args.uni.now in
    record {
      gathered = gather_less (setting_of u) (IsGiven (setting_of u))
          (FirstHypotheses u.hypotheses c.loop-k.k) (FirstLines u.nodes u.hypotheses 0)
          (known_at u c.loop-k.log.known) c.loop-k.invariant.gathered
          (lines_none u.nodes u.hypotheses c.loop-k.k
          (omega (arith, ap length c.hyps-k-end.ensures, c.loop-k-test.false)));
      begins = begins_slack u c.args.first c.loop-k.k (length u.hypotheses + 0) c.loop-k.log (omega
          (arith, ap length c.hyps-k-end.ensures, c.loop-k.auto.k-end)) c.loop-k.invariant.begins;
      gives = gives_slack u (IsOfParent u None) c.loop-k.k (given_before u 0) c.args.first
          c.loop-k.log (omega (arith, ap length c.hyps-k-end.ensures, c.loop-k.auto.k-end))
          c.loop-k.invariant.gives;
    }

pub loop-n-preserved : goal.loop-n-preserved
loop-n-preserved c =
    let u = c.args.uni.now in
    let e = subst (λ l. slice_get l c.loop-n.n
    ≡ Some c.node.result) c.dag-dag.ensures c.node.ensures.at in
    elim c.match-node.branch [
      | in-Var+in_ok-_variable w ↦
          (let old = c.loop-n.log in
          let new = w.come-in-Var.new.self in
          let there = e ∙ ap Some w.in-Var.is in
          let s = w.given-origin in
          let f : Fact = fact.Bnd (record { 0 = c.loop-n.n }) whole_interval in
          let came = comes_given u old s.result.rule s.result.arg s.result.premises
          (fact.Bnd (record { 0 = c.loop-n.n }) w.whole.result) new given.Variable 0 s.ensures.rule
          s.ensures.arg s.ensures.premises w.in_ok-_variable.ensures in
          let come : ComesGiven u old given.Variable 0 f new =
          subst (λ (i : Interval). ComesGiven u old given.Variable 0
          (fact.Bnd (record { 0 = c.loop-n.n }) i) new) w.whole.ensures.is came in
          let i = comes_improves u old new (given_number given.Variable) 0 [] f
          c.loop-n.invariant.begins.rows.proper come in
          rw w.log-is (record {
            gathered = gather_line (setting_of u) c.loop-n.n w.in-Var.field-0 (known_at u old.known)
                (known_at u new.known) i.0 there c.loop-n.invariant.gathered i.1;
            begins = begins_slack u c.args.first (length u.hypotheses + c.loop-n.n + 1)
                (length u.hypotheses + (c.loop-n.n + 1)) new (omega arith)
                (begins_line u c.args.first c.loop-n.n w.in-Var.field-0
                (length u.hypotheses + c.loop-n.n) old new there c.loop-n.invariant.begins come);
            gives = (let q = count_variable u.nodes c.loop-n.n w.in-Var.field-0 there in
                let n = variable_count (take c.loop-n.n u.nodes) in
                let m = variable_count (take (c.loop-n.n + 1) u.nodes) in
                gives_slack u (IsOfParent u None) (length u.hypotheses + n + 1)
                (length u.hypotheses + m) c.args.first new (omega (arith, q))
                (gives_more u (IsOfParent u None) (length u.hypotheses + n) c.args.first
                given.Variable 0 old new f c.loop-n.invariant.begins.first_is
                c.loop-n.invariant.gives come));
          }))
      | in_default w ↦
          rw w.log-is (record {
            gathered = gather_less (setting_of u) (IsGiven (setting_of u))
                (FirstLines u.nodes u.hypotheses c.loop-n.n) (FirstLines u.nodes u.hypotheses
                (c.loop-n.n + 1)) (known_at u c.loop-n.log.known) c.loop-n.invariant.gathered
                (lines_skip u.nodes u.hypotheses c.loop-n.n (λ v q. w.in_default.not-Var v
                (let z : Some c.node.result ≡ Some (node.Var v) = sym e ∙ q in cc)));
            begins = begins_slack u c.args.first (length u.hypotheses + c.loop-n.n)
                (length u.hypotheses + (c.loop-n.n + 1)) c.loop-n.log
                (omega arith) c.loop-n.invariant.begins;
            gives = (let q = count_other u.nodes c.loop-n.n c.node.result e w.in_default.not-Var in
                let n = variable_count (take c.loop-n.n u.nodes) in
                let m = variable_count (take (c.loop-n.n + 1) u.nodes) in
                gives_slack u (IsOfParent u None) (length u.hypotheses + n)
                (length u.hypotheses + m) c.args.first c.loop-n.log (omega (arith, q))
                c.loop-n.invariant.gives);
          })
    ]

pub returns-clause-gives : goal.returns-clause-gives
returns-clause-gives c =
    let u = c.args.uni.now in
    let all : c.loop-n.n ≡ length u.nodes =
    omega (
      arith,
      ap length c.dag-dag.ensures,
      c.len-n-end.ensures,
      c.loop-n-test.false,
      c.loop-n.auto.n-end,
    ) in
    let q = count_all u.nodes c.loop-n.n all in
    let n = variable_count (take c.loop-n.n u.nodes) in
    gives_slack u (IsOfParent u None) (length u.hypotheses + n) (most_given u None) c.args.first
    c.loop-n.log (omega (arith, q)) c.loop-n.invariant.gives
