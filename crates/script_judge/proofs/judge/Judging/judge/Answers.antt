use Rattle.std.proofs.Common.{◌≡◌, ◌≤◌, sym, ap, ◌∙◌, subst, arith}
use Rattle.std.specs.List.{slice_get}
use Rattle.std.specs.Option.{option_copied, option_map}
use Rattle.dyadic.specs.Values.{value_of}
use Rattle.script_words.specs.Named.{word_of}
use Rattle.script_words.specs.Kept.{words_in}
use Rattle.script_shape.specs.Roles.{leaves_of}
use Rattle.script_judge.specs.BoundViews.{notes_of}
use Rattle.script_judge.specs.Names.{split_name}
use Rattle.script_judge.specs.Splits.{cut_after, before_after, splits_after}
use Rattle.script_judge.specs.SplitViews.{said_if, AreKept, splits_seen, kept_cases}
use Rattle.script_judge.proofs.Turns.{is_at, ends_by_form, ends_by_limit, goes_on}
use Rattle.script_judge.proofs.judge.Judging.judge.Goals as goal

pub loop-number-init : goal.loop-number-init
loop-number-init c = record { judged = c.requires.judged; kept = c.requires.kept }

pub returns-in-Some-clause-refused : goal.returns-in-Some-clause-refused
returns-in-Some-clause-refused c =
    let n = c.loop-number.number in
    let self = c.loop-number.self in
    let r = c.role_at-role.result in
    let w = word_of c.at-word.result in
    let v = notes_of c.notes_on-notes.result in
    let roles = c.args.roles.now in
    let words = words_in c.args.words in
    let said = said_if (option_copied c.args.formula) in
    let here = is_at roles words n self.seen self.splits self.arrows said r w
    c.roles_from-later_roles.result.now (words_in c.from-later_words.result) v
    c.without-later_arrows.result c.is_arrow.result c.in_ok-lacks_range.lacks_range
    c.is_bad_point-bad_point.result c.form_refusal-form.result c.loop-number.invariant.judged
    c.role_at-role.ensures c.at-word.ensures c.roles_from-later_roles.ensures
    c.from-later_words.ensures.words c.args.self.now.number c.args.end c.requires.said (omega arith)
    (omega arith) c.notes_on-notes.ensures.tells c.without-later_arrows.ensures c.is_arrow.ensures
    c.in_ok-lacks_range.ensures.lacks c.is_bad_point-bad_point.ensures
    c.form_refusal-form.ensures in
    ends_by_form (leaves_of roles words) n self.seen self.splits self.arrows said r w
    (leaves_of c.roles_from-later_roles.result.now (words_in c.from-later_words.result)) v
    c.form_refusal-form.result here.0
    c.in-Some.kind c.in-Some.is

pub returns-in-Some-limit_refusal-clause-refused : goal.returns-in-Some-limit_refusal-clause-refused
returns-in-Some-limit_refusal-clause-refused c =
    let n = c.loop-number.number in
    let self = c.loop-number.self in
    let r = c.role_at-role.result in
    let w = word_of c.at-word.result in
    let v = notes_of c.notes_on-notes.result in
    let roles = c.args.roles.now in
    let words = words_in c.args.words in
    let said = said_if (option_copied c.args.formula) in
    let here = is_at roles words n self.seen self.splits self.arrows said r w
    c.roles_from-later_roles.result.now (words_in c.from-later_words.result) v
    c.without-later_arrows.result c.is_arrow.result c.in_ok-lacks_range.lacks_range
    c.is_bad_point-bad_point.result c.form_refusal-form.result c.loop-number.invariant.judged
    c.role_at-role.ensures c.at-word.ensures c.roles_from-later_roles.ensures
    c.from-later_words.ensures.words c.args.self.now.number c.args.end c.requires.said (omega arith)
    (omega arith) c.notes_on-notes.ensures.tells c.without-later_arrows.ensures c.is_arrow.ensures
    c.in_ok-lacks_range.ensures.lacks c.is_bad_point-bad_point.ensures
    c.form_refusal-form.ensures in
    ends_by_limit (leaves_of roles words) n self.seen self.splits self.arrows said r w
    (leaves_of c.roles_from-later_roles.result.now (words_in c.from-later_words.result)) v
    c.form_refusal-form.result here.0
    c.in_default.is c.take-in-loop-number.new.self c.in_ok-take.ensures.seen c.limit_refusal.result
    c.limit_refusal.ensures c.in-Some-limit_refusal.kind c.in-Some-limit_refusal.is

pub loop-number-preserved : goal.loop-number-preserved
loop-number-preserved c =
    let n = c.loop-number.number in
    let self = c.loop-number.self in
    let r = c.role_at-role.result in
    let w = word_of c.at-word.result in
    let v = notes_of c.notes_on-notes.result in
    let roles = c.args.roles.now in
    let words = words_in c.args.words in
    let said = said_if (option_copied c.args.formula) in
    let here = is_at roles words n self.seen self.splits self.arrows said r w
    c.roles_from-later_roles.result.now (words_in c.from-later_words.result) v
    c.without-later_arrows.result c.is_arrow.result c.in_ok-lacks_range.lacks_range
    c.is_bad_point-bad_point.result c.form_refusal-form.result c.loop-number.invariant.judged
    c.role_at-role.ensures c.at-word.ensures c.roles_from-later_roles.ensures
    c.from-later_words.ensures.words c.args.self.now.number c.args.end c.requires.said (omega arith)
    (omega arith) c.notes_on-notes.ensures.tells c.without-later_arrows.ensures c.is_arrow.ensures
    c.in_ok-lacks_range.ensures.lacks c.is_bad_point-bad_point.ensures
    c.form_refusal-form.ensures in
    let new = c.take.new.self in
    let found = c.in_ok-lacks_range.ensures in
    let cut : kept_cases (slice_get new.ranges.items new.cut)
    ≡ cut_after said (split_name r w) (splits_seen self.splits).cut =
    (λ i. kept_cases (slice_get (c.take.ensures.ranges i).items (c.take.ensures.cut i)))
    ∙ found.cut in
    let before : option_map value_of new.before
    ≡ before_after (option_map value_of self.splits.before) v.number r =
    c.take.ensures.before
    ∙ ap (λ b. before_after (option_map value_of b) v.number r) found.before in
    let splits : splits_seen new
    ≡ splits_after (splits_seen self.splits) said (split_name r w) v.number r =
    λ i. record { cut = cut i; before = before i } in
    record {
      judged = goes_on (leaves_of roles words) n self.seen self.splits self.arrows said r w
          (leaves_of c.roles_from-later_roles.result.now (words_in c.from-later_words.result)) v
          c.form_refusal-form.result here.0
          c.in_default.is c.take-in-loop-number.new.self c.in_ok-take.ensures.seen
          c.limit_refusal.result c.limit_refusal.ensures c.in_default-limit_refusal.is
          c.in_ok-take.ensures.cases c.take.new.self splits c.without-later_arrows.result
          here.1;
      kept = subst (λ rs. AreKept said rs.items) (sym c.take.ensures.ranges) found.kept;
    }
