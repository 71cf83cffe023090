-- What is left in the file for the certificate of a script that is answered with lines.
use Rattle.std.specs.Prelude.{◌≡◌, ◌≢◌, ⊤, ℕ, List, Option, Some, None, Result, Ok, Err}
use Rattle.std.specs.Prelude.{IsErrOf, OnOk, OnErr}
use Rattle.std.proofs.Common.{inl, inr, refl, sym, subst, ap, ◌∙◌, arith}
use Rattle.fx_edge.specs.declared.outside.Folder.{Ghosts}
use Rattle.goals.specs.declared.line.Line.{Line}
use Rattle.proof_options.specs.declared.options.Options.{Options as Asking}
use Rattle.proof_options.specs.Ranges.{AreAllowed}
use Rattle.script_grammar.specs.Spells.{View}
use Rattle.settler.specs.Answers.{Options, IsProved, options_from}
use Rattle.whole_texts.specs.OnlyWrites.{OnlyWrites}
use Rattle.command_runs.specs.Runs.{Bytes, Told}
use Rattle.command_runs.specs.Fates.{Left, Leaves, Makes, begun}
use Rattle.command_runs.specs.Fates.Left.{Kept, Whole}
use Rattle.command_runs.specs.declared.status.Status.TheVariants as status
use Rattle.script_answers.specs.Answers.{IsAnswered, ProvePrints}
use Rattle.cert_writer.specs.Written.{OfProved, HoldsCertificate, HoldsFront}
use Rattle.cert_writer.specs.declared.walk.WriteStop.{WriteStop}
use Rattle.cert_writer.specs.declared.walk.WriteStop.TheVariants as write_stop
use Rattle.prove_command.specs.Certified.{HasWriteCause, IsCertified}
use Rattle.prove_command.specs.Certified.{IsCertifiedBy, IsStopped, IsWrittenBy, left_by}
use Rattle.prove_command.specs.Command.{IsCertificateOf, MakesFor, TextFate}
use Rattle.prove_command.specs.declared.certify.Certified.{Certified}
use Rattle.prove_command.proofs.Fates.{of_made, of_kept}

-- ---- of one file
-- a certificate of it stands there whole
whole_left : (cut : Type 0) (s : View) (shown : List Line) (old new : Option Bytes)
    → HoldsCertificate s shown old new
    → (left : Left) × Makes (IsCertificateOf cut s shown) left × Leaves left old new
whole_left cut s shown None new h = (Whole None, (None, refl, tt), refl)
whole_left cut s shown (Some old) new (bytes, is, written, short) =
    (Whole (Some bytes), (Some bytes, refl, record { written = written; short = inr short }), is)

-- what it held does, or a front of one
front_left : (s : View) (shown : List Line) (old new : Option Bytes) → HoldsFront s shown old new
    → (left : Left) × Makes (IsCertificateOf ⊤ s shown) left × Leaves (begun left) old new
front_left s shown None new h = (Whole None, (None, refl, tt), inl refl)
front_left s shown (Some old) new (inl same) = (Whole None, (None, refl, tt), inr same)
front_left s shown (Some old) new (inr (front, is, (all, written, begins))) = (
  Whole (Some all),
  (Some all, refl, record { written = written; short = inl tt }),
  inr (front, begins, is),
)

-- a file has one name
name_same : (x y : Bytes) (cert : Option Bytes) → cert ≡ Some x → cert ≡ Some y → x ≡ y
name_same x y cert e f = let h : Some x ≡ Some y = sym e ∙ f in cc h

-- what the writer says, of these options
module _ (s : View) (a : Asking) (allowed : AreAllowed a) (P : List Line → Type 0) where
  of_options : OfProved s a.rounds a.depth P → (lines : List Line)
      → IsProved s (options_from a) lines → P lines
  of_options so lines p = so a.boxes lines allowed.boxes.1 p

  pub ok_options : {T E : Type 0} (r : Result T E) → OnOk r (OfProved s a.rounds a.depth P)
      → OnOk r ((lines : List Line) → IsProved s (options_from a) lines → P lines)
  ok_options (Ok x) so = of_options so
  ok_options (Err e) so = tt

  pub err_options : {T E : Type 0} (r : Result T E) → OnErr r (OfProved s a.rounds a.depth P)
      → OnErr r ((lines : List Line) → IsProved s (options_from a) lines → P lines)
  err_options (Ok x) so = tt
  err_options (Err e) so = of_options so

-- what the writer says, of the name that is asked for
module _ {D T : Type 0} (folder : Ghosts D) (o : Options) (s : View) (name : Bytes)
    (cert : Option Bytes) (old new : D) (w : Result T WriteStop) (named : cert ≡ Some name) where
  pub written_by : OnOk w ((lines : List Line) → IsProved s o lines
      → HoldsCertificate s lines (folder.told old name) (folder.told new name))
      → OnErr w ((lines : List Line) → IsProved s o lines
      → HoldsFront s lines (folder.told old name) (folder.told new name))
      → OnlyWrites folder name old new (IsErrOf w write_stop.Failed)
      → IsWrittenBy folder o s cert old new w
  written_by ok err only = record {
    ok = λ n e. subst (λ (m : Bytes). OnOk w ((lines : List Line) → IsProved s o lines
        → HoldsCertificate s lines (folder.told old m) (folder.told new m)))
        (name_same name n cert named e) ok;
    err = λ n e. subst (λ (m : Bytes). OnErr w ((lines : List Line) → IsProved s o lines
        → HoldsFront s lines (folder.told old m) (folder.told new m)))
        (name_same name n cert named e) err;
    named = λ stopped none. let h : Some name ≡ None = sym named ∙ none in cc h;
    others = λ other n. only.others other (λ e. n (named ∙ ap Some (sym e)));
    cause = record { later = only.later; failed = only.cause };
  }

-- ---- of a script that is answered
-- The script is answered with these lines.
abbrev pub IsAnsweredWith : Options → View → Bytes → Type 0
IsAnsweredWith o s lines = (d : IsAnswered o s.text lines) × (d.script ≡ s)

module _ (o : Options) (s : View) (lines : Bytes) (given : IsAnsweredWith o s lines) where
  abbrev answered : IsAnswered o s.text lines
  answered = given.0

  script_is : answered.script ≡ s
  script_is = given.1

  shown_is : IsProved s o answered.shown
  shown_is = subst (λ (v : View). IsProved v o answered.shown) script_is
      (answered.boxes, answered.proved.proved)

  -- what is so of its lines, is so of those of the answer
  so : (P : View → List Line → Type 0) → ((shown : List Line) → IsProved s o shown → P s shown)
      → P answered.script answered.shown
  so P h = subst (λ (v : View). P v answered.shown) (sym script_is) (h answered.shown shown_is)

  left_of : {T E : Type 0} (w : Result T E) (old new : Option Bytes)
      → OnOk w ((shown : List Line) → IsProved s o shown → HoldsCertificate s shown old new)
      → OnErr w ((shown : List Line) → IsProved s o shown → HoldsFront s shown old new)
      → (left : Left) × Makes (IsCertificateOf (IsStopped w) answered.script answered.shown) left
      × Leaves (left_by w left) old new
  left_of (Ok x) old new ok err =
      whole_left ⊥ answered.script answered.shown old new
      (so (λ v shown. HoldsCertificate v shown old new) ok)
  left_of (Err e) old new ok err =
      front_left answered.script answered.shown old new
      (so (λ v shown. HoldsFront v shown old new) err)

  -- its certificate is written, as far as that came
  pub is_certified : (c : Certified) (cert : Option Bytes) (name : Bytes) (old new : Told)
      → c.status ≡ status.Answered → c.lines.items ≡ lines → cert ≡ Some name
      → OnOk c.written ((shown : List Line) → IsProved s o shown
      → HoldsCertificate s shown (old name) (new name))
      → OnErr c.written ((shown : List Line) → IsProved s o shown
      → HoldsFront s shown (old name) (new name))
      → IsCertified o s.text cert old new c
  is_certified c cert name old new same_status same_lines named ok err =
      let l = left_of c.written (old name) (new name) ok err in
      let makes = subst
      (λ k. MakesFor k (IsCertificateOf (IsStopped c.written) answered.script answered.shown) l.0)
      (sym named) l.1 in
      let here = of_made (IsStopped c.written) cert o s.text lines c.status l.0 same_status
      (answered, makes) in
      record {
        left = l.0;
        made = subst (λ (ms : Bytes). TextFate (IsStopped c.written) cert o s.text c.status ms l.0)
            (sym same_lines) here;
        file = λ n given.
            subst (λ (m : Bytes). Leaves (left_by c.written l.0) (old m) (new m))
            (name_same name n cert named given) l.2;
        named = λ stopped none. let h : Some name ≡ None = sym named ∙ none in cc h;
      }

-- ---- where nothing is written
kept_by : {T E : Type 0} (w : Result T E) → left_by w Kept ≡ Kept
kept_by (Ok x) = refl
kept_by (Err e) = refl

-- the text is answered so, and no file changes
pub is_spared : (o : Options) (text : Bytes) (cert : Option Bytes) (old new : Told) (c : Certified)
    → ¬ IsStopped c.written → ((n : Bytes) → new n ≡ old n)
    → ProvePrints o text c.status c.lines.items
    → (c.status ≡ status.Answered → (d : IsAnswered o text c.lines.items)
    → MakesFor cert (IsCertificateOf (IsStopped c.written) d.script d.shown) Kept)
    → IsCertified o text cert old new c
is_spared o text cert old new c done kept p makes = record {
  left = Kept;
  made = of_kept (IsStopped c.written) cert o text c.lines.items c.status p makes;
  file = λ n named. subst (λ l. Leaves l (old n) (new n)) (sym (kept_by c.written)) (kept n);
  named = λ stopped. absurd (done stopped);
}

-- The text isn't proved, but answered by this status and these lines, and nothing was to be
-- written.
pub record IsSpared (o : Options) (text : Bytes) (c : Certified) : Type 0 where
  pub other : c.status ≢ status.Answered
  pub prints : ProvePrints o text c.status c.lines.items
  pub done : ¬ IsStopped c.written

-- no write failed
quiet_cause : {T : Type 0} (w : ℕ) (r : Result T WriteStop) → ¬ IsStopped r → HasWriteCause w w r
quiet_cause w (Ok x) done = record { later = omega arith; failed = λ e. cc e }
quiet_cause w (Err e) done = absurd (done tt)

-- ---- what came of a text
module _ {D E : Type 0} (folder : Ghosts D) (o : Options) (text : Bytes) (cert : Option Bytes) where
  -- no proof is claimed
  pub spared_by : (at : D) (c : Certified) → IsSpared o text c
      → IsCertifiedBy {D = D} {E = E} folder o text cert at at (Ok c)
  spared_by at c h = record {
    made = is_spared o text cert (folder.told at) (folder.told at) c h.done (λ n. refl) h.prints
        (λ e. absurd (h.other e));
    others = λ other n. refl;
    cause = quiet_cause (folder.write_faults at) c.written h.done;
    still = tt;
  }

  -- memory ran out before anything was written
  pub starved_by : (at : D) (e : E) → IsCertifiedBy folder o text cert at at (Err e)
  starved_by at e = record {
    made = tt;
    others = λ other n. refl;
    cause = tt;
    still = λ name. refl;
  }

-- a proved script's certificate is written, where it is asked for
module _ {D : Type 0} (folder : Ghosts D) (o : Options) (s : View) (lines : Bytes)
    (given : IsAnsweredWith o s lines) (old new : D) where
  made_by : (cert : Option Bytes) (c : Certified) → c.status ≡ status.Answered
      → c.lines.items ≡ lines → IsWrittenBy folder o s cert old new c.written
      → IsCertified o s.text cert (folder.told old) (folder.told new) c
  made_by None c told same h =
      is_spared o s.text None (folder.told old) (folder.told new) c
      (λ stopped. h.named stopped refl) (λ n. h.others n (λ e. cc e))
      (subst (λ (ms : Bytes). ProvePrints o s.text c.status ms) (sym same)
      (subst (λ t. ProvePrints o s.text t lines) (sym told) given.0))
      (λ _ d. refl)
  made_by (Some name) c told same h =
      is_certified o s lines given c (Some name) name (folder.told old) (folder.told new)
      told same refl (h.ok name refl) (h.err name refl)

-- what is certified then
pub certified_by : {D E : Type 0} (folder : Ghosts D) (o : Options) (s : View) (lines : Bytes)
    (given : IsAnsweredWith o s lines) (old new : D) (cert : Option Bytes) (c : Certified)
    → c.status ≡ status.Answered → c.lines.items ≡ lines
    → IsWrittenBy folder o s cert old new c.written
    → IsCertifiedBy {D = D} {E = E} folder o s.text cert old new (Ok c)
certified_by folder o s lines given old new cert c told same h = record {
  made = made_by folder o s lines given old new cert c told same h;
  others = h.others;
  cause = h.cause;
  still = tt;
}
