use Rattle.std.proofs.Common.{◌≡◌, ◌<◌, None, length, get_or, sym, ap, subst, ◌∙◌, arith}
use Rattle.fixprog.specs.First.{fault}
use Rattle.fixprog.specs.declared.fault.ProgKind.TheVariants as kind
use Rattle.fixprog.specs.Lex.{Lexes, token_word}
use Rattle.fixprog.specs.Finding.{earlier}
use Rattle.fixprog.specs.Views.{standing_of, answer_of}
use Rattle.fixprog.specs.Read.{IsTaken, IsRead}
use Rattle.fixprog.specs.Standing.{stands_after}
use Rattle.fixprog.proofs.Runs.{RunsTo, runs_from, runs_on, read_stuck, read_bad, read_short}
use Rattle.fixprog.proofs.Runs.{read_whole}
use Rattle.fixprog.proofs.reader.read.Goals as goal
use Rattle.fixprog.proofs.reader.read.Goals.{in-Some, in-None, in-None+else-not-is_whole}

pub loop-i-init : goal.loop-i-init
loop-i-init c = runs_from c.args.text.now c.args.lexed.now.tokens.items c.new-reader.result
    c.new-reader.ensures.stands c.new-reader.ensures.first c.new-reader.ensures.weight

pub loop-i-preserved : goal.loop-i-preserved
loop-i-preserved c =
    let text = c.args.text.now in
    let tokens = c.args.lexed.now.tokens.items in
    let token = c.index-token.result.now in
    let within : c.loop-i.i < length tokens = omega arith in
    runs_on text tokens c.loop-i.reader c.take.new.self c.loop-i.i token c.loop-i.invariant within
    (subst (λ t. IsTaken c.loop-i.reader c.take.new.self (token_word text t) t.start)
    c.index-token.ensures
    (subst (λ w. IsTaken c.loop-i.reader c.take.new.self w token.start) c.token_word.ensures
    (c.in_ok-take.ensures.taken c.if-not-branch.false)))
    c.in_ok-take.ensures.weight

pub returns-then-not-branch : goal.returns-then-not-branch
returns-then-not-branch c =
    let text = c.args.text.now in
    let tokens = c.args.lexed.now.tokens.items in
    let token = c.index-token.result.now in
    let stuck = c.in_ok-take.ensures.stuck c.if-not-branch.true in
    let within : c.loop-i.i < length tokens = omega arith in
    let none : stands_after (standing_of c.loop-i.reader)
    (token_word text (get_or tokens c.loop-i.i token)) ≡ None =
    subst (λ t. stands_after (standing_of c.loop-i.reader) (token_word text t) ≡ None)
    c.index-token.ensures
    (subst (λ w. stands_after (standing_of c.loop-i.reader) w ≡ None) c.token_word.ensures
    stuck.stands) in
    let read = read_stuck text tokens c.args.lexed.now.bad c.loop-i.reader c.loop-i.i token
    c.refuse.new.self.program c.loop-i.invariant c.requires.readable c.requires.lexed within
    none in
    let first : c.refuse.new.self.first ≡ earlier c.loop-i.reader.first
    (fault kind.Unexpected (get_or tokens c.loop-i.i token).start) =
    c.refuse.ensures.first ∙ ap (λ r. earlier r.first (fault kind.Unexpected token.start))
    stuck.same ∙ ap (λ t. earlier c.loop-i.reader.first (fault kind.Unexpected t.start))
    c.index-token.ensures in
    subst (IsRead text) (sym (c.answer.ensures ∙ ap (λ o. answer_of o c.refuse.new.self.program)
    first)) read

pub returns : goal.returns
returns c =
    let text = c.args.text.now in
    let tokens = c.args.lexed.now.tokens.items in
    let bad = c.args.lexed.now.bad in
    let all : c.loop-i.i ≡ length tokens = omega arith in
    let runs : RunsTo text tokens c.loop-i.reader (length tokens) =
    subst (RunsTo text tokens c.loop-i.reader) all c.loop-i.invariant in
    let read : IsRead text (answer_of c.match-lexed.reader.first c.match-lexed.reader.program) =
    elim c.match-lexed.branch [
      | in-Some w ↦ subst (λ r. IsRead text (answer_of r.first r.program)) (sym w.reader-is)
          (subst (λ o. IsRead text (answer_of o w.refuse-in-Some.new.self.program))
          (sym w.refuse-in-Some.ensures.first)
          (read_bad text tokens bad c.loop-i.reader w.refuse-in-Some.new.self.program runs
          c.requires.readable c.requires.lexed w.in-Some.at w.in-Some.is))
      | in-None w ↦ subst (λ r. IsRead text (answer_of r.first r.program)) (sym w.reader-is)
          (subst (λ o. IsRead text (answer_of o w.refuse-in-None.new.self.program))
          (sym w.refuse-in-None.ensures.first)
          (read_short text tokens bad c.loop-i.reader w.refuse-in-None.new.self.program runs
          c.requires.readable c.requires.lexed w.in-None.is (sym w.is_whole.ensures
          ∙ w.if-not-is_whole.true)))
      | in-None+else-not-is_whole w ↦ subst (λ r. IsRead text (answer_of r.first r.program))
          (sym w.reader-is)
          (read_whole text tokens c.loop-i.reader runs c.requires.readable
          (subst (λ o. Lexes 0 text tokens o) w.in-None.is c.requires.lexed)
          (sym w.is_whole.ensures ∙ w.if-not-is_whole.false))
    ] in
    subst (IsRead text) (sym c.answer-2.ensures) read
