-- One answer is defined for a text and a certificate.
use Rattle.std.proofs.Common.{◌≡◌, inl, inr, Option, Some, refl, sym, ap, ◌∙◌, subst}
use Rattle.script_judge.specs.First.{FirstsAreUnique}
use Rattle.script_grammar.specs.Spells.{View, Spells, SpellsOnce, NeverBoth}
use Rattle.rewrite_hints.specs.Marks.{AreMarks}
use Rattle.rewrite_hints.proofs.MarksLaws.{marks_are_one}
use Rattle.cert_bytes.specs.declared.style.Style.TheVariants.{First}
use Rattle.cert_bytes.specs.Reading.{cursor}
use Rattle.cert_checker.specs.Contexts.{Context}
use Rattle.cert_checker.specs.Outcomes.{Outcome, accepted, unread, refused}
use Rattle.script_checker.specs.Checking.{ComesFor, ChecksAreOne}
use Rattle.command_runs.specs.Runs.{Bytes}
use Rattle.command_runs.specs.declared.status.Status.TheVariants.{Answered, Certificate}
use Rattle.command_runs.specs.declared.status.Status.TheVariants as status
use Rattle.report.specs.Proved.{answer_text}
use Rattle.report.specs.Certificates.{cert_fault_line, check_fault_line}
use Rattle.script_texts.proofs.Texts.{refused_once}
use Rattle.check_command.specs.Checked.{IsChecked, IsFaulty}
use Rattle.check_command.specs.Laws.{CheckAnswersAreOne}

-- the line of an outcome that isn't accepted
abbrev IsFail : Outcome → Bytes → Type 0
IsFail (accepted end) line = ⊥
IsFail (unread f) line = line ≡ cert_fault_line f
IsFail (refused f) line = line ≡ check_fault_line f

fail_once : (o : Outcome) (line other : Bytes) → IsFail o line → IsFail o other → line ≡ other
fail_once (accepted end) line other p q = absurd p
fail_once (unread f) line other p q = p ∙ sym q
fail_once (refused f) line other p q = p ∙ sym q

end-same : (c d : Context) → accepted c ≡ accepted d → c ≡ d
end-same c d e = cc

module _ (spells_once : SpellsOnce) (both : NeverBoth) (unique : FirstsAreUnique)
    (checks_once : ChecksAreOne) where
  module _ (text all : Bytes) (cert : Option Bytes) (told : cert ≡ Some all) where
    fails_with : (s : View) (line : Bytes) → IsFaulty s cert line
        → (o : Outcome) × ComesFor s (cursor First all 0) o × IsFail o line
    fails_with s line (inl (f, comes, e)) = (unread f, comes all told, e)
    fails_with s line (inr (f, comes, e)) = (refused f, comes all told, e)

    -- what comes for two scripts of one text is one
    comes_once : (s t : View) (o other : Outcome) → Spells text s → Spells text t
        → ComesFor s (cursor First all 0) o → ComesFor t (cursor First all 0) other → o ≡ other
    comes_once s t o other p q i j =
        checks_once s (cursor First all 0) o other i
        (subst (λ (v : View). ComesFor v (cursor First all 0) other) (spells_once text t s q p) j)

    both_accepted : (line other : Bytes) → IsChecked text cert line → IsChecked text cert other
        → line ≡ other
    both_accepted line other p q =
        let script : p.script ≡ q.script = spells_once text p.script q.script p.spelled q.spelled in
        let here = p.comes all told in
        let there = q.comes all told in
        let one : here.0 ≡ there.0 =
        end-same here.0 there.0
        (comes_once p.script q.script (accepted here.0) (accepted there.0) p.spelled q.spelled
        here.1 there.1) in
        let shown : p.shown ≡ q.shown = here.2 ∙ ap (λ (c : Context). c.lines) one ∙ sym there.2 in
        let marked : AreMarks p.script.nodes p.script.hints.rewrites q.marks =
        subst (λ (v : View). AreMarks v.nodes v.hints.rewrites q.marks) (sym script) q.marked in
        let marks : p.marks ≡ q.marks =
        marks_are_one p.script.nodes p.script.hints.rewrites p.marks q.marks p.marked marked in
        p.printed
        ∙ (λ i. answer_text (script i).text (script i).tokens (script i).spans (shown i) (marks i))
        ∙ sym q.printed

    not_both : (line other : Bytes) (t : View) → IsChecked text cert line → Spells text t
        → ¬ IsFaulty t cert other
    not_both line other t p q fails =
        let here = p.comes all told in
        let there = fails_with t other fails in
        subst (λ (o : Outcome). IsFail o other)
        (sym (comes_once p.script t (accepted here.0) there.0 p.spelled q here.1 there.1)) there.2

    both_fail : (line other : Bytes) (s t : View) → Spells text s → Spells text t
        → IsFaulty s cert line → IsFaulty t cert other → line ≡ other
    both_fail line other s t p q a b =
        let here = fails_with s line a in
        let there = fails_with t other b in
        fail_once there.0 line other
        (subst (λ (o : Outcome). IsFail o line)
        (comes_once s t here.0 there.0 p q here.1 there.1) here.2) there.2

  pub check_once : CheckAnswersAreOne
  check_once text cert tells Answered Answered line other p q =
      let c = tells p.script p.spelled in (refl, both_accepted text c.0 cert c.1 line other p q)
  check_once text cert tells Answered Certificate line other p (t, q, f) =
      let c = tells t q in absurd (not_both text c.0 cert c.1 line other t p q f)
  check_once text cert tells Answered status.Script line other p (r, q, e) =
      absurd (both text p.script r p.spelled q)
  check_once text cert tells Certificate Answered line other (s, p, f) q =
      let c = tells s p in absurd (not_both text c.0 cert c.1 other line s q p f)
  check_once text cert tells Certificate Certificate line other (s, p, f) (t, q, g) =
      let c = tells s p in (refl, both_fail text c.0 cert c.1 line other s t p q f g)
  check_once text cert tells Certificate status.Script line other (s, p, f) (r, q, e) =
      absurd (both text s r p q)
  check_once text cert tells status.Script Answered line other (r, p, e) q =
      absurd (both text q.script r q.spelled p)
  check_once text cert tells status.Script Certificate line other (r, p, e) (t, q, f) =
      absurd (both text t r q p)
  check_once text cert tells status.Script status.Script line other p q =
      (refl, refused_once unique text line other p q)
  check_once text cert tells Answered _ line other p q = absurd q
  check_once text cert tells Certificate _ line other p q = absurd q
  check_once text cert tells status.Script _ line other p q = absurd q
  check_once text cert tells _ t line other p q = absurd p
