-- What is published is open, and no settled box is.
use Rattle.std.proofs.Common.{◌≡◌, ℕ, ◌+◌, ◌≤◌, cond, List, arith}
use Rattle.box_tree.proofs.InRanges.{at_bool}
use Rattle.accounts.specs.declared.book.OpenBox.{OpenBox}
use Rattle.accounts.specs.Paths.{Cuts}
use Rattle.accounts.specs.Weights.{one, times}
use Rattle.accounts.specs.Account.{Account, over_open, if_shown}
use Rattle.accounts.specs.Balance.{IsOpen, IsBalanced}
use Rattle.accounts.specs.Published.{PublishedAreOpen, BoxesTell}
use Rattle.accounts.proofs.SumsLaws.{one_same}
use Rattle.accounts.proofs.Sums.{IsAmong, each_weighs, each_weaker, each_fits, open_le, open_plus}
use Rattle.accounts.proofs.Sums.{whole_total}
use Rattle.accounts.proofs.Once.{pushed_once_of_cuts}

-- the weight of a box whose entry wasn't published; others weigh nothing
abbrev if_hidden : (List ℕ → ℕ) → OpenBox → ℕ
if_hidden h b = cond b.shown 0 (h b.path)

shown_or_hidden : (h : List ℕ → ℕ) (x : OpenBox) → if_shown h x + if_hidden h x ≤ h x.path
shown_or_hidden h x =
    at_bool x.shown (λ r. cond {A = ℕ} r (h x.path) 0 + cond {A = ℕ} r 0 (h x.path) ≤ h x.path)
    (λ _. omega arith) (λ _. omega arith)

module _ (cuts : Cuts) (k : Account) (b : IsBalanced cuts k) where
  -- a path was taken once at most, so it is settled, in a hand, held or split once at most
  fated_once : (p : List ℕ) → times p k.settled + over_open (λ x. one p x.path) k ≤ 1
  fated_once p =
      let f = b.fates (one p) in let w = whole_total cuts (one p) k b in
      let o = (pushed_once_of_cuts cuts k b p).0 in omega arith

  -- open boxes are published or not
  parted : (p : List ℕ) →
      over_open (if_shown (one p)) k + over_open (if_hidden (one p)) k
      ≤ over_open (λ x. one p x.path) k
  parted p =
      let s = open_plus (if_shown (one p)) (if_hidden (one p)) k in
      let le = open_le (IsOpen cuts) (λ x. if_shown (one p) x + if_hidden (one p) x)
      (λ x. one p x.path) k (each_fits cuts k b) (λ x _. shown_or_hidden (one p) x) in
      omega arith

  pub published_are_open : PublishedAreOpen k
  published_are_open p =
      let e = b.published (one p) in let le = parted p in let f = fated_once p in
      (omega arith, λ some. (omega arith, omega arith))

  pub boxes_tell : BoxesTell k
  boxes_tell = each_weaker (IsAmong k) (λ x. times x.path k.published ≡ cond x.shown 1 0) k
      (each_weighs k) (λ x among.
      let e = b.published (one x.path) in
      let le = parted x.path in
      let f = fated_once x.path in
      let o = one_same x.path in
      let shown = among (if_shown (one x.path)) in
      let hidden = among (if_hidden (one x.path)) in
      at_bool x.shown
      (λ r. cond {A = ℕ} r (one x.path x.path) 0 ≤ over_open (if_shown (one x.path)) k →
      cond {A = ℕ} r 0 (one x.path x.path) ≤ over_open (if_hidden (one x.path)) k →
      times x.path k.published ≡ cond r 1 0)
      (λ _ s h. omega arith) (λ _ s h. omega arith) shown hidden)

-- so is each balanced account
pub published : (cuts : Cuts) (k : Account) → IsBalanced cuts k → PublishedAreOpen k × BoxesTell k
published cuts k b = (published_are_open cuts k b, boxes_tell cuts k b)
