-- Which of the files counts is told by their first bytes.
use Rattle.std.proofs.Common.{◌+◌, ◌^◌, ◌≡◌, ◌∙◌, Err, take, sym, ap, rules}
use Rattle.racf_checkpoint.specs.Contents.{checkpoint_fault}
use Rattle.racf_checkpoint.specs.Stored.{pick}
use Rattle.racf_checkpoint.proofs.Finding.{fronts_refuse, fronts_count}
use Rattle.racf_checkpoint.proofs.reading.read_parts.Goals as goal

pub returns-in_err-side-clause-fault : goal.returns-in_err-side-clause-fault
returns-in_err-side-clause-fault g c =
    let why = c.in_err-side.field-0.0 in
    let is : c.from_residual-in_err-side.result ≡ Err (checkpoint_fault why) = search rules in
    rw is (λ h e k f. fronts_refuse c.deref.result.now c.deref-2.result.now h.now.bytes k.now.bytes why (c.deref.ensures.value ∙ c.in_ok-one.ensures.bytes h e) (c.deref-2.ensures.value ∙ c.in_ok-two.ensures.bytes k f) c.in_err-side.ensures.fault c.in_err-side.ensures.nothing)

pub returns-in_ok-one-in-First-clause-first_part : goal.returns-in_ok-one-in-First-clause-first_part
returns-in_ok-one-in-First-clause-first_part g c h e =
    c.in_ok-one-in-First.ensures.bytes h (c.in_ok-one.ensures.kept ∙ e) ∙ ap (λ s. take (pick s (2 ^ 28 + 1) 17) h.now.bytes) (sym c.in-First.is)

pub returns-in_ok-one-in-First-clause-counts : goal.returns-in_ok-one-in-First-clause-counts
returns-in_ok-one-in-First-clause-counts g c h e k f =
    fronts_count c.in_ok-side.side c.deref.result.now c.deref-2.result.now h.now.bytes k.now.bytes (c.deref.ensures.value ∙ c.in_ok-one.ensures.bytes h e) (c.deref-2.ensures.value ∙ c.in_ok-two.ensures.bytes k f) c.in_ok-side.ensures.counts

pub returns-in_ok-two-in-Second-clause-second_part : goal.returns-in_ok-two-in-Second-clause-second_part
returns-in_ok-two-in-Second-clause-second_part g c h e =
    c.in_ok-two-in-Second.ensures.bytes h (c.in_ok-two.ensures.kept ∙ e) ∙ ap (λ s. take (pick s 17 (2 ^ 28 + 1)) h.now.bytes) (sym c.in-Second.is)

pub returns-in_ok-two-in-Second-clause-counts : goal.returns-in_ok-two-in-Second-clause-counts
returns-in_ok-two-in-Second-clause-counts g c h e k f =
    fronts_count c.in_ok-side.side c.deref.result.now c.deref-2.result.now h.now.bytes k.now.bytes (c.deref.ensures.value ∙ c.in_ok-one.ensures.bytes h e) (c.deref-2.ensures.value ∙ c.in_ok-two.ensures.bytes k f) c.in_ok-side.ensures.counts
