-- The best facts of one height are those of greater heights, where nothing comes any more.
use Rattle.std.specs.Prelude.{◌≡◌, ◌≤◌, ◌+◌, ◌-◌, ℕ, zero, suc, Some, None}
use Rattle.std.proofs.Common.{sym, ◌∙◌, ap, subst, arith}
use Rattle.facts.specs.declared.fact.Fact.{Fact}
use Rattle.facts.specs.declared.fact.Slot.TheVariants as slot
use Rattle.facts.specs.Order.{slot_of}
use Rattle.facts.proofs.Laws.{IsStronger-refl}
use Rattle.derivation.specs.Lists.{IsLawful}
use Rattle.derivation.specs.Derivations.{Setting, Derives, given, met, At, Beats, IsBest, IsClosed}
use Rattle.derivation.specs.Rounds.{IsProper, IsSame, IsAhead, AllSeen, InTable, IsBestFrom}
use Rattle.derivation.proofs.Parts.{none_some, beats_meet}
use Rattle.derivation.proofs.Best.{Derives-suc, next_best}

pub Derives-add : {u : Setting} {G : Fact → Type 0} {h : ℕ} {f : Fact} (n : ℕ)
    → Derives u G h f → Derives u G (n + h) f
Derives-add {u} {G} {h} {f} zero d =
    subst (λ m. Derives u G m f) (let e : h ≡ 0 + h = omega arith in e) d
Derives-add {u} {G} {h} {f} (suc n) d = subst (λ m. Derives u G m f)
    (let e : suc (n + h) ≡ suc n + h = omega arith in e) (Derives-suc (Derives-add n d))

best_at : (u : Setting) (G : Fact → Type 0) (h m : ℕ) (at : At) → IsBest u G ((m - h) + h) at
    → h ≤ m → IsBest u G m at
best_at u G h m at b l = subst (λ k. IsBest u G k at) (let e : (m - h) + h ≡ m = omega arith in e) b

-- Where VOID is, the table is best at every greater height.
pub best_void : (u : Setting) (G : Fact → Type 0) (h m : ℕ) (at : At) (f : Fact) → IsBest u G h at
    → at slot.Void ≡ Some f → h ≤ m → IsBest u G m at
best_void u G h m at f b e l = best_at u G h m at (record {
  reached = λ s g q. let r = b.reached s g q in (r.0, Derives-add (m - h) r.1);
  least = λ v. absurd (none_some f (at slot.Void) v e);
}) l

ahead_same : (u : Setting) (at new : At) → IsAhead u at new AllSeen → IsSame at new
    → IsAhead u at at AllSeen
ahead_same u at new a same = record {
  made = λ s g e. a.made s g (same s ∙ e);
  grows = λ v s f e. (f, e, IsStronger-refl f);
  beats = λ v k i c e l q. let b = a.beats (same slot.Void ∙ v) k i c e l q in
      (b.0, sym (same (slot_of c)) ∙ b.1, b.2);
}

same_best : (u : Setting) → IsLawful u.rules
    → IsClosed u.instances → (G : Fact → Type 0) (h : ℕ) (at : At) → at slot.Void ≡ None
    → IsAhead u at at AllSeen → IsBest u G h at
    → (n : ℕ) → IsBest u G (n + h) at
same_best u lawful closed G h at v a b zero =
    subst (λ m. IsBest u G m at) (let e : h ≡ 0 + h = omega arith in e) b
same_best u lawful closed G h at v a b (suc n) =
    subst (λ m. IsBest u G m at) (let e : suc (n + h) ≡ suc n + h = omega arith in e)
    (next_best u lawful closed G (n + h) at at (same_best u lawful closed G h at v a b n) v a)

-- Where a whole round changes nothing, the table is best at every greater height.
pub best_same : (u : Setting) → IsLawful u.rules → IsClosed u.instances
    → (G : Fact → Type 0) (h m : ℕ) (at new : At) → IsBest u G h at → at slot.Void ≡ None
    → IsAhead u at new AllSeen → IsSame at new → h ≤ m → IsBest u G m at
best_same u lawful closed G h m at new b v a same l =
    best_at u G h m at (same_best u lawful closed G h at v (ahead_same u at new a same) b (m - h)) l

-- ---- height 0
start_meets : (u : Setting) (at : At) → IsProper at → at slot.Void ≡ None → (f : Fact)
    → Derives u (InTable at) zero f → Beats at f
start_meets u at p v f (given x) = (f, ap at (p x.0 f x.1) ∙ x.1, IsStronger-refl f)
start_meets u at p v f (met a b d e m) =
    beats_meet at p v a b f (start_meets u at p v a d) (start_meets u at p v b e) m

-- The facts of a table are the best of height 0 over themselves.
pub best_start : (u : Setting) (at : At) → IsProper at → IsBestFrom u at 0 at
best_start u at p = record {
  reached = λ s g e. (p s g e, given (s, e));
  least = λ v f d. start_meets u at p v f d;
}
