use Rattle.std.proofs.Common.{Some, ◌∙◌}
use Rattle.cert_bytes.specs.declared.order.DueItem.TheVariants.{Head}
use Rattle.cert_trim.specs.Used.{is_among, used_from}
use Rattle.cert_trim.proofs.Enough.{used_are_enough, led_cite_earlier}
use Rattle.cert_trim.proofs.AllUsed.{all_left_are_used}
use Rattle.cert_trim.proofs.Trims.{trimmed_are_accepted}
use Rattle.cert_trim.proofs.Ordered.{still_certificate, still_spelled, certificate_in_order}
use Rattle.cert_trim.proofs.laws.trimmed_are_accepted.Goals as goal

pub returns-clause-any : goal.returns-clause-any
returns-clause-any c = trimmed_are_accepted

pub returns-clause-used : goal.returns-clause-used
returns-clause-used c = λ s items lines accepted.
    let used = is_among (used_from 0 items) in
    let earlier = led_cite_earlier s items accepted.end accepted.leads in
    let h = trimmed_are_accepted used s items accepted.end (used_are_enough items earlier)
    (certificate_in_order (Some Head) items accepted.certificate) accepted.leads in
    record {
      certificate = still_certificate used items accepted.certificate;
      end = h.0;
      leads = h.1;
      cases = h.3 ∙ accepted.cases;
      shown = h.2 ∙ accepted.shown;
    }

pub returns-clause-left : goal.returns-clause-left
returns-clause-left c = λ s items end leads.
    all_left_are_used items (led_cite_earlier s items end leads)

pub returns-clause-earlier : goal.returns-clause-earlier
returns-clause-earlier c = led_cite_earlier

pub returns-clause-spelled : goal.returns-clause-spelled
returns-clause-spelled c = λ items h. still_spelled (is_among (used_from 0 items)) items 0 h
