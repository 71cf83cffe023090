-- What comes of the bytes is answered, and lines come of bytes that spell an accepted certificate.
use Rattle.std.proofs.Common.{ℕ, List, Result, Ok, Err, refl, sym, subst}
use Rattle.std.specs.Prelude.{IfOk}
use Rattle.cert_bytes.specs.declared.style.Style.{Style}
use Rattle.cert_bytes.specs.Pieces.{cursor_of}
use Rattle.cert_bytes.specs.Readers.{Progress}
use Rattle.cert_bytes.specs.ReadOut.{AreBytes}
use Rattle.cert_bytes.specs.Reading.{Cursor, cursor}
use Rattle.cert_checker.specs.declared.fault.CheckStop.{CheckStop}
use Rattle.cert_checker.specs.declared.fault.CheckStop.TheVariants.{Cert, Check, Failed}
use Rattle.cert_checker.specs.declared.fault.CheckStop.TheVariants.{OutOfMemory}
use Rattle.cert_checker.specs.declared.lines.Lines.{Lines}
use Rattle.cert_checker.specs.declared.subject.Subject.{Subject}
use Rattle.cert_checker.specs.Accepted.{Accepts}
use Rattle.cert_checker.specs.Outcomes.{Outcome, accepted, unread, refused, ComesOf}
use Rattle.cert_checker.specs.Outcomes.{AcceptedAreSpelled}
use Rattle.cert_checker.specs.Checking.{IsFresh, Checks, IsAnswer, AreAccepted}
use Rattle.cert_checker.proofs.OutcomesOnce.{comes_once}

pub answered_is_it : (s : Subject) (p : Cursor) (o : Outcome) (result : Result Lines CheckStop)
    → ComesOf s p o → Checks s p result → IsAnswer o result
answered_is_it s p o (Ok lines) h shows = subst (λ (x : Outcome). IsAnswer x (Ok lines))
    (comes_once s p (accepted shows.end) o shows.comes h) shows.rows
answered_is_it s p o (Err (Cert f)) h checks =
    subst (λ (x : Outcome). IsAnswer x (Err (Cert f))) (comes_once s p (unread f) o checks h) refl
answered_is_it s p o (Err (Check f)) h checks =
    subst (λ (x : Outcome). IsAnswer x (Err (Check f))) (comes_once s p (refused f) o checks h) refl
answered_is_it s p o (Err Failed) h checks = tt
answered_is_it s p o (Err OutOfMemory) h checks = tt

pub accepted_so : AcceptedAreSpelled → (s : Subject) (all : List ℕ) (r : Progress) → IsFresh r
    → AreBytes all → (result : Result Lines CheckStop) → Checks s (cursor_of all r.ahead) result
    → IfOk result (λ lines. AreAccepted s all lines.rows)
accepted_so spelled s all r fresh bytes (Ok lines) shows =
    let P : Style → ℕ → Type 0 = λ style at. ComesOf s (cursor style all at) (accepted shows.end) in
    let Q : Style → Type 0 = λ style. P style 0 in
    let t = spelled s all shows.end bytes
    (subst Q fresh.style (subst (P r.ahead.style) fresh.at shows.comes)) in
    record { items = t.0; spelled = t.1; accepts = subst (Accepts s t.0) (sym shows.rows) t.2 }
accepted_so spelled s all r fresh bytes (Err e) checks = tt
