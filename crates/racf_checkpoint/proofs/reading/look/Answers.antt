-- What was read is what the files say.
use Rattle.std.proofs.Common.{◌≡◌, ◌∙◌, Err, List, ℕ, sym, subst, rules}
use Rattle.checkpoint_disks.specs.Counting.{as_read}
use Rattle.racf_checkpoint.specs.Finding.{IsSaid}
use Rattle.racf_checkpoint.proofs.Finding.{parts_seen, parts_refuse, said_parts}
use Rattle.racf_checkpoint.proofs.reading.look.Goals as goal

pub returns-in_err-seen-clause-fault : goal.returns-in_err-seen-clause-fault
returns-in_err-seen-clause-fault g c =
    let why = c.in_err-seen.field-0.0 in
    let parts = c.in_ok-parts.ensures in
    let is : c.from_residual-in_err-seen.result ≡ Err why = search rules in
    rw is (λ h e k f. parts_refuse why c.deref.result.now c.deref-2.result.now h.now.bytes k.now.bytes
    (said_parts c.in_ok-parts.parts.side c.deref.result.now c.deref-2.result.now h.now.bytes k.now.bytes (c.deref.ensures.value ∙ parts.first_part h e) (c.deref-2.ensures.value ∙ parts.second_part k f) (parts.counts h e k f)) c.in_err-seen.ensures.fault)

pub returns-clause-seen : goal.returns-clause-seen
returns-clause-seen g c =
    let parts = c.in_ok-parts.parts in
    let seen = c.in_ok-seen.seen in
    let is = c.in_ok-parts.ensures in
    let said : IsSaid parts.one.items parts.two.items seen.side (as_read seen.checkpoint) seen.end =
    subst (λ (l : List ℕ). IsSaid l parts.two.items seen.side (as_read seen.checkpoint) seen.end) c.deref.ensures.value
    (subst (λ (l : List ℕ). IsSaid c.deref.result.now l seen.side (as_read seen.checkpoint) seen.end) c.deref-2.ensures.value c.in_ok-seen.ensures.said) in
    parts_seen (g.D.Disk.tells c.read_parts.new.first) (g.D.Disk.tells c.read_parts.new.second) parts.side seen.side (as_read seen.checkpoint) parts.one.items parts.two.items seen.end said is.short
    (λ h e. c.requires.first h (sym is.kept.0 ∙ e)) (λ h e. c.requires.second h (sym is.kept.1 ∙ e)) (λ h e. is.first_part h (sym is.kept.0 ∙ e)) (λ h e. is.second_part h (sym is.kept.1 ∙ e))
