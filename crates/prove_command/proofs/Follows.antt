-- What follows of a run of `prove`: what the certificate's file holds, by how the run ended.
use Rattle.std.specs.Prelude.{◌≡◌, ◌≢◌, ◌≤◌, ◌⊎◌, ◌^◌, List, [], length, Option, Some, None}
use Rattle.std.proofs.Common.{inl, inr, refl, sym, subst, ◌∙◌, append-nil}
use Rattle.goals.specs.declared.line.Line.{Line}
use Rattle.script_grammar.specs.Spells.{View}
use Rattle.command_line.specs.Reading.{Asked}
use Rattle.whole_texts.specs.Pieces.{IsFront}
use Rattle.command_runs.specs.Runs.{Bytes, Run, IsKept, IsSilent, Puts, PutsFront, ReadFailed}
use Rattle.command_runs.specs.Runs.{WriteFailed}
use Rattle.command_runs.specs.Fates.{Left, Leaves, Makes, Written, OfText, Ending, IsUntouched}
use Rattle.command_runs.specs.Fates.{BreaksOff, EndsBy, EndsIn, begun, ending}
use Rattle.command_runs.specs.Fates.Ending.{Done, BrokeOff, Starved}
use Rattle.command_runs.specs.Fates.Left.{Kept}
use Rattle.command_runs.specs.Statuses.{read_fault_line}
use Rattle.command_runs.specs.declared.status.Status.{Status}
use Rattle.command_runs.specs.declared.status.Status.TheVariants as status
use Rattle.script_answers.specs.Answers.{IsAnswered, ProvePrints, options_of}
use Rattle.cert_writer.specs.Written.{HoldsCertificate, HoldsFront}
use Rattle.prove_command.specs.Command.{IsCutOff, IsCertificateOf, MakesFor, ProveFate, IsProveRun}

-- ---- one file
-- left whole, it holds the certificate
whole_holds : (cut : Type 0) (s : View) (shown : List Line) (left : Left) (old new : Option Bytes)
    → Makes (IsCertificateOf cut s shown) left → Leaves left old new
    → cut ⊎ HoldsCertificate s shown old new
whole_holds cut s shown left None new m l = inr tt
whole_holds cut s shown left (Some old) new (None, is, h) l =
    let e : Some old ≡ None = subst (λ k. Leaves k (Some old) new) is l in absurd (cc e)
whole_holds cut s shown left (Some old) new (Some bytes, is, h) l = by h.short where
  by : cut ⊎ (length bytes ≤ 2 ^ 44) → cut ⊎ HoldsCertificate s shown (Some old) new
  by (inl c) = inl c
  by (inr short) =
      inr (bytes, subst (λ k. Leaves k (Some old) new) is l, h.written, short)

-- left begun, it holds what it held, or a front of one
front_holds : (cut : Type 0) (s : View) (shown : List Line) (left : Left) (old new : Option Bytes)
    → Makes (IsCertificateOf cut s shown) left → Leaves (begun left) old new
    → HoldsFront s shown old new
front_holds cut s shown left None new m l = tt
front_holds cut s shown left (Some old) new (None, is, h) l =
    by (subst (λ k. Leaves (begun k) (Some old) new) is l) where
      by : (Some old ≡ None) ⊎ (new ≡ Some old) → HoldsFront s shown (Some old) new
      by (inl e) = absurd (cc e)
      by (inr same) = inl same
front_holds cut s shown left (Some old) new (Some bytes, is, h) l =
    by (subst (λ k. Leaves (begun k) (Some old) new) is l) where
      by : (new ≡ Some old) ⊎ ((front : Bytes) × IsFront front bytes × (new ≡ Some front))
          → HoldsFront s shown (Some old) new
      by (inl same) = inl same
      by (inr (front, begins, same)) = inr (front, same, (bytes, h.written, begins))

-- the named file, where one is named
abbrev pub OfNamed : Option Bytes → (Bytes → Type 0) → Type 0
OfNamed cert Q = (n : Bytes) → cert ≡ Some n → Q n

each_named : (X : Type 0) (cert : Option Bytes) (Q : Bytes → Type 0)
    → ((n : Bytes) → cert ≡ Some n → X ⊎ Q n) → X ⊎ OfNamed cert Q
each_named X None Q h = inr (λ n e. absurd (cc e))
each_named X (Some x) Q h = by (h x refl) where
  by : X ⊎ Q x → X ⊎ OfNamed (Some x) Q
  by (inl c) = inl c
  by (inr q) = inr (λ n e. let f : Some x ≡ Some n = e in let same : x ≡ n = cc f in subst Q same q)

-- ---- a run
-- what the file of a certificate may hold, by its script, its lines, and what the file held
abbrev pub Holding : Type 1
Holding = View → List Line → Option Bytes → Option Bytes → Type 0

-- These are lines of `prove`, of this status: of a read fault; or of one text that is told, or may
-- be behind the script's name. With lines of goals so much of their certificate is in the file;
-- with all others the file is what it was.
abbrev pub HasLines : Asked → Run → Holding → Status → Bytes → Type 0
HasLines a r Holds s lines =
    ((s ≡ status.ReadFault) × ReadFailed r × (lines ≡ read_fault_line a.script)
    × OfNamed a.cert (IsKept r))
    ⊎ OfText r.before.told a.script (λ text.
    ((s ≢ status.Answered) × ProvePrints (options_of a) text s lines × OfNamed a.cert (IsKept r))
    ⊎ ((s ≡ status.Answered) × (d : IsAnswered (options_of a) text lines)
    × OfNamed a.cert (λ n. Holds d.script d.shown (r.before.told n) (r.after.told n))))

module _ (a : Asked) (r : Run) where
  module _ (X : Type 0) (Holds : Holding) (left : Left)
      (kept : left ≡ Kept → OfNamed a.cert (IsKept r))
      (holds : (s : View) (shown : List Line) (n : Bytes) → a.cert ≡ Some n
      → Makes (IsCertificateOf (IsCutOff r) s shown) left
      → X ⊎ Holds s shown (r.before.told n) (r.after.told n)) where
    made_has : (text lines : Bytes) (d : IsAnswered (options_of a) text lines)
        → MakesFor a.cert (IsCertificateOf (IsCutOff r) d.script d.shown) left
        → X ⊎ OfNamed a.cert (λ n. Holds d.script d.shown (r.before.told n) (r.after.told n))
    made_has text lines d m = each_named X a.cert
        (λ n. Holds d.script d.shown (r.before.told n) (r.after.told n))
        (λ n named. holds d.script d.shown n named
        (subst (λ c. MakesFor c (IsCertificateOf (IsCutOff r) d.script d.shown) left) named m))

    fate_has : (s : Status) (lines : Bytes) → ProveFate a r s lines left
        → X ⊎ HasLines a r Holds s lines
    fate_has status.ReadFault lines (name, is, failed, stays, e) =
        inr (inl (refl, failed, subst (λ n. lines ≡ read_fault_line n) is e, kept stays))
    fate_has status.Answered lines (text, is, (d, m)) = by (made_has text lines d m) where
      by : X ⊎ OfNamed a.cert (λ n. Holds d.script d.shown (r.before.told n) (r.after.told n))
          → X ⊎ HasLines a r Holds status.Answered lines
      by (inl c) = inl c
      by (inr h) = inr (inr (text, is, inr (refl, d, h)))
    fate_has _ lines h = inr (inr (h.0, h.1, inl ((λ e. cc e), h.2.0, kept h.2.1)))

  -- what is left whole was written so, or nothing was put
  module _ (left : Left) (file : Written a.cert left r) where
    kept_whole : left ≡ Kept → OfNamed a.cert (IsKept r)
    kept_whole is n named =
        subst (λ l. Leaves l (r.before.told n) (r.after.told n)) is (file n named)

    whole_has : (X : Type 0) → (IsCutOff r → X) → (s : Status) (lines : Bytes)
        → ProveFate a r s lines left → X ⊎ HasLines a r HoldsCertificate s lines
    whole_has X cut s lines p = fate_has X HoldsCertificate left kept_whole
        (λ v shown n named m. or_cut (whole_holds (IsCutOff r) v shown left _ _ m (file n named)))
        s lines p where
          or_cut : {Q : Type 0} → IsCutOff r ⊎ Q → X ⊎ Q
          or_cut (inl c) = inl (cut c)
          or_cut (inr q) = inr q

  -- ---- how it ended
  -- it wasn't cut off
  not_cut : (r.status ≡ status.WriteFault → ¬ WriteFailed r) → r.status ≢ status.OutOfMemory
      → IsCutOff r → ⊥
  not_cut unwritten memory c = by c.why where
    by : ((r.status ≡ status.WriteFault) × WriteFailed r) ⊎ (r.status ≡ status.OutOfMemory) → ⊥
    by (inl (is, failed)) = unwritten is failed
    by (inr is) = memory is

  only : (Q : Type 0) → ⊥ ⊎ Q → Q
  only Q (inl c) = absurd c
  only Q (inr q) = q

  -- Such lines were put, or a front of them.
  abbrev pub PutsLines : Holding → Type 0
  PutsLines Holds = (s : Status) × (lines : Bytes) × PutsFront r lines × HasLines a r Holds s lines

  whole_front : (lines : Bytes) → Puts r lines → PutsFront r lines
  whole_front lines took = (lines, ([], sym (append-nil lines)), took)

  silent_or : (s : Status) (lines : Bytes) → PutsFront r lines
      → IsSilent r ⊎ HasLines a r HoldsCertificate s lines → IsSilent r ⊎ PutsLines HoldsCertificate
  silent_or s lines front (inl silent) = inl silent
  silent_or s lines front (inr h) = inr (s, lines, front, h)

  behind_cut : BreaksOff a.cert (ProveFate a r) r → IsSilent r ⊎ PutsLines HoldsCertificate
  behind_cut (s, lines, left, p, b) = by b.order where
    by : IsSilent r ⊎ Written a.cert left r → IsSilent r ⊎ PutsLines HoldsCertificate
    by (inl silent) = inl silent
    by (inr file) = silent_or s lines b.put
        (whole_has left file (IsSilent r) (λ c. c.silent) s lines p)

  behind_by : (e : Ending) → EndsBy e r.status a.cert (ProveFate a r) r
      → IsSilent r ⊎ PutsLines HoldsCertificate
  behind_by Done (lines, left, p, d) = silent_or r.status lines (whole_front lines d.put)
      (whole_has left d.file (IsSilent r) (λ c. c.silent) r.status lines p)
  behind_by BrokeOff b = behind_cut b
  behind_by Starved (inl u) = inl u.silent
  behind_by Starved (inr b) = behind_cut b

  -- However it ended, the sink took nothing, or lines of goals behind their whole certificate.
  pub certificate_comes_first : IsProveRun a r → IsSilent r ⊎ PutsLines HoldsCertificate
  certificate_comes_first h = behind_by (ending r.status) h.runs.ends

  -- At `Answered` the lines were put whole, and the file holds their certificate.
  pub certificate_is_held : IsProveRun a r → r.status ≡ status.Answered
      → (lines : Bytes) × Puts r lines × HasLines a r HoldsCertificate status.Answered lines
  certificate_is_held h is =
      let (lines, left, p, d) = subst (λ t. EndsIn t a.cert (ProveFate a r) r) is h.runs.ends in (
        lines,
        d.put,
        only (HasLines a r HoldsCertificate status.Answered lines)
            (whole_has left d.file ⊥ (not_cut other starved) status.Answered lines p),
      ) where
        other : r.status ≡ status.WriteFault → ¬ WriteFailed r
        other e failed = let f : status.Answered ≡ status.WriteFault = sym is ∙ e in cc f

        starved : r.status ≢ status.OutOfMemory
        starved e = let f : status.Answered ≡ status.OutOfMemory = sym is ∙ e in cc f

  -- After a write fault too, where no read and no write of the folder failed.
  pub certificate_is_held_quietly : IsProveRun a r → r.status ≡ status.WriteFault → ¬ ReadFailed r
      → ¬ WriteFailed r → PutsLines HoldsCertificate
  certificate_is_held_quietly h is reads writes =
      let ends = subst (λ t. EndsIn t a.cert (ProveFate a r) r) is h.runs.ends in
      let (s, lines, left, p, b) = ends in (
        s,
        lines,
        b.put,
        only (HasLines a r HoldsCertificate s lines)
            (whole_has left (b.quiet is reads writes) ⊥ (not_cut (λ _. writes) starved) s lines p),
      ) where
        starved : r.status ≢ status.OutOfMemory
        starved e = let f : status.WriteFault ≡ status.OutOfMemory = sym is ∙ e in cc f

  broken_has : BreaksOff a.cert (ProveFate a r) r → PutsLines HoldsFront
  broken_has (s, lines, left, p, b) = (
    s,
    lines,
    b.put,
    only (HasLines a r HoldsFront s lines) (fate_has ⊥ HoldsFront left
        (λ is n named. subst (λ l. Leaves (begun l) (r.before.told n) (r.after.told n)) is
        (b.file n named))
        (λ v shown n named m. inr (front_holds (IsCutOff r) v shown left _ _ m (b.file n named)))
        s lines p),
  )

  untouched_or : IsUntouched r ⊎ BreaksOff a.cert (ProveFate a r) r
      → IsUntouched r ⊎ PutsLines HoldsFront
  untouched_or (inl u) = inl u
  untouched_or (inr b) = inr (broken_has b)

  -- After any write fault the file holds a front of it, or what it held; where memory ran out too,
  -- or nothing was done.
  pub front_is_held : IsProveRun a r → r.status ≡ status.WriteFault → PutsLines HoldsFront
  front_is_held h is = broken_has (subst (λ t. EndsIn t a.cert (ProveFate a r) r) is h.runs.ends)

  pub front_is_held_starved : IsProveRun a r → r.status ≡ status.OutOfMemory
      → IsUntouched r ⊎ PutsLines HoldsFront
  front_is_held_starved h is = untouched_or
      (subst (λ t. EndsIn t a.cert (ProveFate a r) r) is h.runs.ends)
