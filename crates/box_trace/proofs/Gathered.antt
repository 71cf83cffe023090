-- A log in a round, and rounds after one another.
use Rattle.std.specs.Prelude.{◌≡◌, ◌+◌, ◌*◌, ◌↔◌, ℕ, zero, suc, Bool, true, false, List, Some}
use Rattle.std.specs.Prelude.{IsTrue, slice_get, refl}
use Rattle.std.proofs.Common.{sym, subst, arith}
use Rattle.facts.specs.declared.fact.Fact.{Fact}
use Rattle.facts.specs.declared.fact.Fact.TheVariants as fact
use Rattle.facts.specs.declared.fact.Slot.TheVariants as slot
use Rattle.facts.specs.declared.instance.Instance.{Instance}
use Rattle.theorem_list.specs.Concludes.{concludes}
use Rattle.derivation.specs.Derivations.{At, Beats}
use Rattle.derivation.specs.Rounds.{conclusion, IsAhead, IsProper, AllSeen}
use Rattle.derivation.specs.Changes.{IsListed}
use Rattle.rule_universe.specs.declared.placed.Placed.{Placed}
use Rattle.rule_universe.specs.Worlds.{World}
use Rattle.rule_universe.specs.Placed.{slots_of}
use Rattle.saturate.specs.Universes.{setting_of}
use Rattle.saturate.specs.Keeping.{IsSaid, IsWhole, HaveCome}
use Rattle.box_trace.specs.declared.log.Log.{Log}
use Rattle.box_trace.specs.declared.gathering.Gathering.{Gathering}
use Rattle.box_trace.specs.Tables.{known_at, HasRows}
use Rattle.box_trace.specs.Logs.{IsLonger}
use Rattle.box_trace.specs.Rounds.{HasRounds}
use Rattle.box_trace.specs.Gatherings.{IsGathering, HasCome}
use Rattle.box_trace.proofs.Rows.{same_known}
use Rattle.box_trace.proofs.Scanned.{scanned_idle}
use Rattle.box_trace.proofs.Came.{not_void, longer_none, longer_round}
use Rattle.box_trace.proofs.Added.{rounds_none, has_round}

-- What is said of VOID.
pub void_said : (at : At) (b : Bool) → IsProper at → (IsTrue b ↔ (at slot.Void ≡ Some fact.Void))
    → IsSaid b (at slot.Void)
void_said at true p e = e.0 refl
void_said at false p e = not_void at p (λ h. (let z : false ≡ true = e.1 h in cc))

module _ (u : World) where
  -- ---- a round
  -- The next instance adds nothing.
  pub gathering_idle : (first t : Gathering) (k : ℕ) → IsGathering u first t k
      → ((i : Instance) (c : Fact) → slice_get u.instances k ≡ Some i
      → conclusion (concludes u.nodes u.hints) (known_at u first.log.known) i ≡ Some c
      → Beats (known_at u first.log.known) c) → IsGathering u first t (k + 1)
  gathering_idle first t k g idle = record {
    before = g.before;
    void = g.void;
    scanned = scanned_idle u (known_at u t.log.known) t.ends.items k g.scanned
        (subst (λ (l : Log). (i : Instance) (c : Fact) → slice_get u.instances k ≡ Some i
        → conclusion (concludes u.nodes u.hints) (known_at u l.known) i ≡ Some c
        → Beats (known_at u l.known) c) (sym g.before.log) idle);
  }

  -- ---- a whole round
  pub come_whole : (first t : Gathering) (changed : List Placed) → HasCome u first t changed
      → IsWhole (setting_of u) u (known_at u first.log.known) (known_at u t.log.known) changed
  come_whole first t changed w =
      let new = known_at u t.log.known in
      let e = same_known u first.log.known w.0 w.1 in
      record {
        ahead = subst (λ (x : At). IsAhead (setting_of u) x new AllSeen) e w.2.ahead;
        listed = λ v. subst (λ (x : At). IsListed (slots_of changed) x new) e (w.2.listed v);
        placed = w.2.placed;
      }

  -- ---- rounds after one another
  module _ (first : Gathering) (rows : HasRows u first.log.known) where
    pub come_longer : (n : ℕ) (last : Gathering) → HaveCome (HasCome u) n first last
        → IsLonger u (n * 8192) first.log last.log
    come_longer zero last e = subst (λ (t : Gathering). IsLonger u (0 * 8192) first.log t.log)
        (sym e) (longer_none u (0 * 8192) first.log rows)
    come_longer (suc n) last w =
        let mid = w.0 in
        let came = w.3 in
        longer_round u came.0 (n * 8192) (suc n * 8192) first.log mid.log last.log w.1
        (come_longer n mid w.2) came.1 came.2 (omega arith)

    pub come_rounds : (n : ℕ) (last : Gathering) → HaveCome (HasCome u) n first last
        → HasRounds u n first.log last.log
    come_rounds zero last e = subst (λ (t : Gathering). HasRounds u 0 first.log t.log)
        (sym e) (rounds_none u first.log)
    come_rounds (suc n) last w =
        let mid = w.0 in
        let came = w.3 in
        has_round u came.0 n (suc n) first.log mid.log last.log w.1 (come_rounds n mid w.2)
        (come_longer n mid w.2).first came.1 came.2 (omega arith)
