-- Laws of what specs/Ends defines.
use Rattle.std.specs.Prelude.{◌≡◌, ◌≢◌, ◌⊎◌, [], Bool, true, false, Option, Some, None}
use Rattle.std.specs.Str.{bytes_eq}
use Rattle.std.specs.Io.KnownBytes.{Keeps}
use Rattle.std.proofs.Common.{inl, inr, refl, sym, ap, subst, ◌∙◌, append-nil}
use Rattle.std.proofs.lemmas.Slice.Eq.{bytes_eq-Decides}
use Rattle.whole_texts.specs.Pieces.{AppendsFront}
use Rattle.whole_texts.specs.declared.read.ReadStop.{ReadStop}
use Rattle.whole_texts.specs.declared.read.ReadStop.TheVariants as stop
use Rattle.command_runs.specs.Runs.{Bytes, Run, IsKept, IsSilent, ReadFailed, WriteFailed}
use Rattle.command_runs.specs.Runs.{PutFailed}
use Rattle.command_runs.specs.Fates.{Left, Fate, Leaves, begun, Written, IsBrokenOff, IsUntouched}
use Rattle.command_runs.specs.Fates.{BreaksOff, Ending, ending, EndsBy, EndsIn, Runs, Comes}
use Rattle.command_runs.specs.Fates.{AreTold, IsExact, IsRunOf, OrUnread, IsKeptFile}
use Rattle.command_runs.specs.Fates.Ending.{Done, BrokeOff, Starved}
use Rattle.command_runs.specs.Fates.Left.{Kept, Whole, Begun}
use Rattle.command_runs.specs.Statuses.{read_fault_line}
use Rattle.command_runs.specs.declared.status.Status.{Status}
use Rattle.command_runs.specs.declared.status.Status.TheVariants as status
use Rattle.command_runs.specs.Ends.{IsPut, IsStopPut, IsLinePut}

-- ---- what is put
-- the lines were put in the run
abbrev pub IsPutBy : Status → Bytes → Run → Type 0
IsPutBy s lines r = IsPut s lines r.before.taken r.after.taken r.before.puts r.after.puts r.status

-- In the run the lines were put, or memory ran out before they were made.
abbrev pub IsLinePutBy : Status → Bytes → Run → Type 0
IsLinePutBy s lines r =
    IsLinePut s lines r.before.taken r.after.taken r.before.puts r.after.puts r.status

-- In the run it was put why a file of this name wasn't read, or memory ran out.
abbrev pub IsStopPutBy : ReadStop → Bytes → Run → Type 0
IsStopPutBy why name r =
    IsStopPut why name r.before.taken r.after.taken r.before.puts r.after.puts r.status

-- ---- a wider fate
module _ (name : Option Bytes) (P Q : Fate) (r : Run)
    (wider : (s : Status) (lines : Bytes) (left : Left) → P s lines left → Q s lines left) where
  breaks_wider : BreaksOff name P r → BreaksOff name Q r
  breaks_wider (s, lines, left, p, b) = (s, lines, left, wider s lines left p, b)

  ends_wider : (e : Ending) (s : Status) → EndsBy e s name P r → EndsBy e s name Q r
  ends_wider Done s (lines, left, p, d) = (lines, left, wider s lines left p, d)
  ends_wider BrokeOff s b = breaks_wider b
  ends_wider Starved s (inl u) = inl u
  ends_wider Starved s (inr b) = inr (breaks_wider b)

  -- a run by one fate is a run by a wider one
  pub runs_wider : Runs name P r → Runs name Q r
  runs_wider h = record {
    ends = ends_wider (ending r.status) r.status h.ends;
    others = h.others;
    cause = h.cause;
  }

-- ---- what is left
-- what is left whole is left begun
pub leaves_begun : (left : Left) (old new : Option Bytes)
    → Leaves left old new → Leaves (begun left) old new
leaves_begun Kept old new h = h
leaves_begun (Begun bytes) old new h = h
leaves_begun (Whole None) old new h = inl h
leaves_begun (Whole (Some bytes)) None new h = tt
leaves_begun (Whole (Some bytes)) (Some old) new h = inr (bytes, ([], sym (append-nil bytes)), h)

-- what a file held is left of whatever was begun
pub leaves_kept : (left : Left) (old new : Option Bytes) → new ≡ old → Leaves (begun left) old new
leaves_kept Kept old new same = same
leaves_kept (Begun None) old new same = inr same
leaves_kept (Begun (Some bytes)) None new same = tt
leaves_kept (Begun (Some bytes)) (Some old) new same = inl same
leaves_kept (Whole None) old new same = inr same
leaves_kept (Whole (Some bytes)) None new same = tt
leaves_kept (Whole (Some bytes)) (Some old) new same = inl same

-- a file that was kept is left so
pub keeps_file : (name : Option Bytes) (r : Run) → ((n : Bytes) → IsKept r n) → Written name Kept r
keeps_file name r kept n named = kept n

-- a sink that took nothing took a front of any lines
pub silent_front : (old new : Option Bytes) (lines : Bytes)
    → Keeps old new → AppendsFront old new lines
silent_front None new lines keeps = ([], (lines, refl), tt)
silent_front (Some x) None lines keeps = absurd keeps
silent_front (Some x) (Some y) lines keeps = ([], (lines, refl), keeps ∙ sym (append-nil x))

-- ---- what a run comes to
module _ (name : Option Bytes) (P : Fate) (r : Run) where
  -- it ended in this way, since this is its status
  ends_at : (s : Status) (e : Ending) → r.status ≡ s → ending s ≡ e → EndsBy e s name P r
      → EndsIn r.status name P r
  ends_at s e same is h = subst (λ t. EndsIn t name P r) (sym same)
      (subst (λ w. EndsBy w s name P r) (sym is) h)

  -- Memory ran out before anything was put or written.
  pub starved_runs : r.status ≡ status.OutOfMemory → IsUntouched r → Runs name P r
  starved_runs same u = record {
    ends = ends_at status.OutOfMemory Starved same refl (inl u);
    others = λ other _. u.files other;
    cause = λ f. absurd (cc (sym same ∙ f));
  }

  module _ (s : Status) (lines : Bytes) (left : Left) (p : P s lines left)
      (others : (other : Bytes) → name ≢ Some other → IsKept r other) where
    -- The lines were made, the file left as they have it, and then they were put.
    module _ (done : ending s ≡ Done) (file : Written name left r) where
      put_ends : IsPutBy s lines r → EndsIn r.status name P r
      put_ends (inl (same, took)) =
          ends_at s Done same done (lines, left, p, record { put = took; file = file })
      put_ends (inr (same, took, rose)) =
          ends_at status.WriteFault BrokeOff same refl (
            s,
            lines,
            left,
            p,
            record {
              put = took;
              file = λ k is. leaves_begun left _ _ (file k is);
              order = inr file;
              quiet = λ _ _ _. file;
            },
          )

      put_cause : IsPutBy s lines r → r.status ≡ status.WriteFault → PutFailed r
      put_cause (inl (same, took)) f =
          let cut : ending s ≡ BrokeOff = ap ending (sym same ∙ f) in absurd (cc (sym done ∙ cut))
      put_cause (inr (same, took, rose)) f = rose

      pub put_runs : IsPutBy s lines r → Runs name P r
      put_runs put = record {
        ends = put_ends put;
        others = others;
        cause = λ f. inl (put_cause put f);
      }

    -- A write failed, or memory ran out, before the lines were put.
    module _ (silent : IsSilent r) (file : Written name (begun left) r) where
      broken : (r.status ≡ status.WriteFault → WriteFailed r) → IsBrokenOff name lines left r
      broken failed = record {
        put = silent_front r.before.taken r.after.taken lines silent;
        file = file;
        order = inl silent;
        quiet = λ f _ still. absurd (still (failed f));
      }

      pub unwritten_runs : r.status ≡ status.WriteFault → name ≢ None → WriteFailed r
          → Runs name P r
      unwritten_runs same named failed = record {
        ends = ends_at status.WriteFault BrokeOff same refl
            (s, lines, left, p, broken (λ _. failed));
        others = others;
        cause = λ _. inr (named, failed);
      }

      pub exhausted_runs : r.status ≡ status.OutOfMemory → Runs name P r
      exhausted_runs same = record {
        ends = ends_at status.OutOfMemory Starved same refl
            (inr (s, lines, left, p, broken (λ f. absurd (cc (sym same ∙ f)))));
        others = others;
        cause = λ f. absurd (cc (sym same ∙ f));
      }

  -- The file was left as some lines have it, and then they were made and put.
  pub line_runs : (s : Status) (lines : Bytes) (left : Left) → P s lines left
      → ((other : Bytes) → name ≢ Some other → IsKept r other) → ending s ≡ Done
      → Written name left r → IsLinePutBy s lines r → Runs name P r
  line_runs s lines left p others done file (inl (same, silent)) =
      exhausted_runs s lines left p others silent (λ k is. leaves_begun left _ _ (file k is)) same
  line_runs s lines left p others done file (inr put) = put_runs s lines left p others done file put

  -- No name's bytes changed, and why a file of this name wasn't read was put.
  pub stop_runs : (why : ReadStop) (n : Bytes) → ((m : Bytes) → IsKept r m)
      → (why ≡ stop.Fault → P status.ReadFault (read_fault_line n) Kept)
      → IsStopPutBy why n r → Runs name P r
  stop_runs why n kept p (inl (same, silent)) =
      starved_runs same (record { silent = silent; files = kept })
  stop_runs why n kept p (inr (is, put)) =
      put_runs status.ReadFault (read_fault_line n) Kept (p is) (λ m _. kept m) refl
      (keeps_file name r kept) put

-- ---- the status that comes
-- this status and those lines, of a fate whose statuses are one, read faults aside
abbrev pub IsOnce : Fate → Type 0
IsOnce P = (s t : Status) (ls ms : Bytes) (l m : Left)
    → s ≢ status.ReadFault → t ≢ status.ReadFault → P s ls l → P t ms m → t ≡ s

unread_or : (t : Status) → (t ≡ status.ReadFault) ⊎ (t ≢ status.ReadFault)
unread_or status.ReadFault = inl refl
unread_or _ = inr (λ e. cc e)

cut_is : (t : Status) → ending t ≡ BrokeOff → t ≡ status.WriteFault
cut_is status.WriteFault e = refl
cut_is _ e = absurd (cc e)

starved_is : (t : Status) → ending t ≡ Starved → t ≡ status.OutOfMemory
starved_is status.OutOfMemory e = refl
starved_is _ e = absurd (cc e)

module _ (name : Option Bytes) (Reads : Bytes → Type 0) (P : Fate) (r : Run)
    (once : AreTold Reads r.before.told → IsOnce P) where
  comes : (e : Ending) (t : Status) → ending t ≡ e → EndsBy e t name P r → (s : Status)
      (lines : Bytes) (left : Left) → AreTold Reads r.before.told → s ≢ status.ReadFault
      → P s lines left → Comes s t
  comes BrokeOff t is b s lines left told n p = inr (inr (inl (cut_is t is)))
  comes Starved t is b s lines left told n p = inr (inr (inr (starved_is t is)))
  comes Done t is (ms, m, q, d) s lines left told n p = comes_by (unread_or t) where
    comes_by : (t ≡ status.ReadFault) ⊎ (t ≢ status.ReadFault) → Comes s t
    comes_by (inl e) = inr (inl e)
    comes_by (inr k) = inl (once told s t lines ms left m n k p q)

  -- where the fate's statuses are one, that which has lines comes
  pub exact_by : Runs name P r → IsExact Reads P r
  exact_by h s lines left told n p =
      comes (ending r.status) r.status refl h.ends s lines left told n p

-- ---- names that don't change
module _ (name : Option Bytes) (P : Fate) (r : Run) (MayChange : Status → Type 0)
    (keeps : (s : Status) (lines : Bytes) (left : Left) → ¬ MayChange s → P s lines left
    → left ≡ Kept)
    (cut : MayChange status.WriteFault) (starved : MayChange status.OutOfMemory) where
  kept_ends : (e : Ending) (t : Status) → ending t ≡ e → ¬ MayChange t → EndsBy e t name P r
      → (n : Bytes) → name ≡ Some n → IsKept r n
  kept_ends BrokeOff t is still b = absurd (still (subst MayChange (sym (cut_is t is)) cut))
  kept_ends Starved t is still b = absurd (still (subst MayChange (sym (starved_is t is)) starved))
  kept_ends Done t is still (lines, left, p, d) = λ n named.
      subst (λ l. Leaves l (r.before.told n) (r.after.told n)) (keeps t lines left still p)
      (d.file n named)

-- what is said of the written file and of all others is said of all
pub kept_all : (name : Option Bytes) (r : Run) → ((n : Bytes) → name ≡ Some n → IsKept r n)
    → ((other : Bytes) → name ≢ Some other → IsKept r other) → (n : Bytes) → IsKept r n
kept_all None r file others n = others n (λ e. cc e)
kept_all (Some x) r file others n = kept_by (bytes_eq x n) refl where
  kept_by : (b : Bool) → bytes_eq x n ≡ b → IsKept r n
  kept_by true e = file n (ap Some ((bytes_eq-Decides x n).0 e))
  kept_by false e = others n (λ same.
      let h : true ≡ false = sym ((bytes_eq-Decides x n).1 (cc same)) ∙ e in cc h)

-- the file of this name is left so
pub left_so : (name : Bytes) (r : Run) (left : Left)
    → Leaves left (r.before.told name) (r.after.told name) → Written (Some name) left r
left_so name r left h n named = let same : name ≡ n = cc named in
    subst (λ m. Leaves left (r.before.told m) (r.after.told m)) same h

module _ (name : Bytes) (r : Run)
    (others : (other : Bytes) → other ≢ name → IsKept r other) where
  -- all but this file are kept
  pub others_kept : (other : Bytes) → Some name ≢ Some other → IsKept r other
  others_kept other differs = others other (λ same. differs (ap Some (sym same)))

  -- and so are all where it is
  pub all_kept : r.after.told name ≡ r.before.told name → (n : Bytes) → IsKept r n
  all_kept same = kept_all (Some name) r
      (λ n named. let is : name ≡ n = cc named in subst (IsKept r) is same) others_kept

-- a sink that nothing was put into
pub kept_same : (o : Option Bytes) → Keeps o o
kept_same None = tt
kept_same (Some x) = refl

-- ---- the whole
-- A run by a fate whose statuses are one, read faults aside, and which keeps the file but where it
-- may change.
pub run_by : (name : Option Bytes) (Reads : Bytes → Type 0) (MayChange : Status → Type 0) (P : Fate)
    (r : Run) → MayChange status.WriteFault → MayChange status.OutOfMemory
    → ((s : Status) (lines : Bytes) (left : Left) → ¬ MayChange s → P s lines left → left ≡ Kept)
    → (AreTold Reads r.before.told → IsOnce P)
    → Runs name P r → IsRunOf name Reads MayChange P r
run_by name Reads MayChange P r cut starved keeps once h = record {
  runs = h;
  exact = exact_by name Reads P r once h;
  unchanged = λ still. kept_all name r
      (kept_ends name P r MayChange keeps cut starved (ending r.status) r.status refl still h.ends)
      h.others;
}

-- A run of any fate where memory ran out before anything was put or written.
pub starved_of : (name : Option Bytes) (Reads : Bytes → Type 0) (MayChange : Status → Type 0)
    (P : Fate) (r : Run) → MayChange status.OutOfMemory → r.status ≡ status.OutOfMemory
    → IsUntouched r → IsRunOf name Reads MayChange P r
starved_of name Reads MayChange P r may same u = record {
  runs = starved_runs name P r same u;
  exact = λ s lines left told n p. inr (inr (inr same));
  unchanged = λ still. absurd (still (subst MayChange (sym same) may));
}

-- ---- beside read faults
-- a fate that may also have the line of a read fault has what it has without, and no more
module _ (Reads : Bytes → Type 0) (Stays : Left → Type 0) (r : Run) (P : Fate) (lines : Bytes)
    (left : Left) where
  pub or_unread : (s : Status) → s ≢ status.ReadFault → P s lines left
      → OrUnread Reads Stays r P s lines left
  or_unread status.ReadFault n p = absurd (n refl)
  or_unread _ n p = p

  pub and_read : (s : Status) → s ≢ status.ReadFault → OrUnread Reads Stays r P s lines left
      → P s lines left
  and_read status.ReadFault n p = absurd (n refl)
  and_read _ n p = p

-- it is one, read faults aside, where the fate without is
pub unread_once : (Reads : Bytes → Type 0) (Stays : Left → Type 0) (r : Run) (P : Fate) → IsOnce P
    → IsOnce (OrUnread Reads Stays r P)
unread_once Reads Stays r P once s t ls ms l m n k p q =
    once s t ls ms l m n k (and_read Reads Stays r P ls l s n p)
    (and_read Reads Stays r P ms m t k q)

-- it keeps the file where the fate without does
pub unread_kept : (Reads : Bytes → Type 0) (r : Run) (P : Fate) (MayChange : Status → Type 0)
    → ((s : Status) (lines : Bytes) (left : Left) → ¬ MayChange s → P s lines left → left ≡ Kept)
    → (s : Status) (lines : Bytes) (left : Left) → ¬ MayChange s
    → OrUnread Reads IsKeptFile r P s lines left → left ≡ Kept
unread_kept Reads r P MayChange keeps s lines left still = by (unread_or s) where
  by : (s ≡ status.ReadFault) ⊎ (s ≢ status.ReadFault) → OrUnread Reads IsKeptFile r P s lines left
      → left ≡ Kept
  by (inl e) p =
      let (name, reads, failed, stays, line) =
      subst (λ t. OrUnread Reads IsKeptFile r P t lines left) e p in stays
  by (inr n) p = keeps s lines left still (and_read Reads IsKeptFile r P lines left s n p)

-- ---- which status comes of a put
pub put_comes : (s : Status) (lines : Bytes) (r : Run) → IsPutBy s lines r → Comes s r.status
put_comes s lines r (inl (same, took)) = inl same
put_comes s lines r (inr (same, took, rose)) = inr (inr (inl same))

pub stop_comes : (why : ReadStop) (name : Bytes) (s : Status) (r : Run) → IsStopPutBy why name r
    → Comes s r.status
stop_comes why name s r (inl (same, silent)) = inr (inr (inr same))
stop_comes why name s r (inr (is, inl (same, took))) = inr (inl same)
stop_comes why name s r (inr (is, inr (same, took, rose))) = inr (inr (inl same))

-- ---- runs of which nothing of the outside fails
-- A run by any fate in which no write and no put failed came to its end, with lines that its status
-- has and the file as they have it; or memory ran out.
module _ (name : Option Bytes) (P : Fate) (r : Run) (h : Runs name P r) where
  all_written : ¬ WriteFailed r → ¬ PutFailed r → r.status ≢ status.WriteFault
  all_written writes puts e = by_cause (h.cause e) where
    by_cause : PutFailed r ⊎ ((name ≢ None) × WriteFailed r) → ⊥
    by_cause (inl failed) = puts failed
    by_cause (inr (named, failed)) = writes failed

  pub done_run : ¬ WriteFailed r → ¬ PutFailed r
      → EndsBy Done r.status name P r ⊎ (r.status ≡ status.OutOfMemory)
  done_run writes puts = by_end (ending r.status) refl h.ends where
    by_end : (e : Ending) → ending r.status ≡ e → EndsBy e r.status name P r
        → EndsBy Done r.status name P r ⊎ (r.status ≡ status.OutOfMemory)
    by_end Done is d = inl d
    by_end BrokeOff is b = absurd (all_written writes puts (cut_is r.status is))
    by_end Starved is b = inr (starved_is r.status is)

-- The same of a run by a fate beside read faults, in which no read failed either: its status and
-- lines are of the fate without.
module _ (name : Option Bytes) (Named : Bytes → Type 0) (Stays : Left → Type 0) (P : Fate) (r : Run)
    (h : Runs name (OrUnread Named Stays r P) r) where
  all_read : ¬ ReadFailed r → r.status ≢ status.ReadFault
  all_read reads e = by_end (subst (λ t. EndsIn t name (OrUnread Named Stays r P) r) e h.ends) where
    by_end : EndsIn status.ReadFault name (OrUnread Named Stays r P) r → ⊥
    by_end (lines, left, (n, named, failed, stays, line), done) = absurd (reads failed)

  pub quiet_run : ¬ ReadFailed r → ¬ WriteFailed r → ¬ PutFailed r
      → EndsBy Done r.status name P r ⊎ (r.status ≡ status.OutOfMemory)
  quiet_run reads writes puts =
      by_end (done_run name (OrUnread Named Stays r P) r h writes puts)
    where
      by_end : EndsBy Done r.status name (OrUnread Named Stays r P) r
          ⊎ (r.status ≡ status.OutOfMemory)
          → EndsBy Done r.status name P r ⊎ (r.status ≡ status.OutOfMemory)
      by_end (inl (lines, left, p, d)) = inl
          (lines, left, and_read Named Stays r P lines left r.status (all_read reads) p, d)
      by_end (inr e) = inr e

-- Where moreover all that is read is told, the status that has lines comes, or memory ran out.
module _ (name : Option Bytes) (Reads Named : Bytes → Type 0) (Stays : Left → Type 0)
    (MayChange : Status → Type 0) (P : Fate) (r : Run)
    (h : IsRunOf name Reads MayChange (OrUnread Named Stays r P) r) where
  pub sure_run : ¬ ReadFailed r → ¬ WriteFailed r → ¬ PutFailed r → AreTold Reads r.before.told
      → (s : Status) (lines : Bytes) (left : Left) → s ≢ status.ReadFault → P s lines left
      → (r.status ≡ s) ⊎ (r.status ≡ status.OutOfMemory)
  sure_run reads writes puts told s lines left n p =
      by_status (h.exact s lines left told n (or_unread Named Stays r P lines left s n p))
    where
      by_status : Comes s r.status → (r.status ≡ s) ⊎ (r.status ≡ status.OutOfMemory)
      by_status (inl e) = inl e
      by_status (inr (inl e)) = absurd (all_read name Named Stays P r h.runs reads e)
      by_status (inr (inr (inl e))) =
          absurd (all_written name (OrUnread Named Stays r P) r h.runs writes puts e)
      by_status (inr (inr (inr e))) = inr e
