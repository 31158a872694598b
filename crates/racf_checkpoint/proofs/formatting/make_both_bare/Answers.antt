-- Each disk is made bare once.
use Rattle.std.proofs.Common.{◌∙◌, inl, inr, sym, subst}
use Rattle.checkpoint_disks.specs.declared.counting.Side.{Side}
use Rattle.checkpoint_disks.specs.Baring.{first_to_go}
use Rattle.racf_checkpoint.specs.Formatting.{GoesBefore}
use Rattle.racf_checkpoint.proofs.Formats.{unchanged_bares, bared, neither_touched}
use Rattle.racf_checkpoint.proofs.formatting.make_both_bare.Goals as goal

pub returns-in_err-goes_first-clause-first_moments : goal.returns-in_err-goes_first-clause-first_moments
returns-in_err-goes_first-clause-first_moments g c = unchanged_bares (g.D.Disk.tells c.args.first.now) _ c.goes_first.ensures.kept.0

pub returns-in_err-goes_first-clause-second_moments : goal.returns-in_err-goes_first-clause-second_moments
returns-in_err-goes_first-clause-second_moments g c = unchanged_bares (g.D.Disk.tells c.args.second.now) _ c.goes_first.ensures.kept.1

pub returns-in_err-make_bare-in-First-clause-first_moments : goal.returns-in_err-make_bare-in-First-clause-first_moments
returns-in_err-make_bare-in-First-clause-first_moments g c = bared (g.D.Disk.tells c.args.first.now) _ _ c.goes_first.ensures.kept.0 c.requires.first c.make_bare.ensures.moments

pub returns-in_err-make_bare-in-First-clause-second_moments : goal.returns-in_err-make_bare-in-First-clause-second_moments
returns-in_err-make_bare-in-First-clause-second_moments g c = unchanged_bares (g.D.Disk.tells c.args.second.now) _ c.goes_first.ensures.kept.1

pub returns-in_err-make_bare-in-Second-clause-first_moments : goal.returns-in_err-make_bare-in-Second-clause-first_moments
returns-in_err-make_bare-in-Second-clause-first_moments g c = unchanged_bares (g.D.Disk.tells c.args.first.now) _ c.goes_first.ensures.kept.0

pub returns-in_err-make_bare-in-Second-clause-second_moments : goal.returns-in_err-make_bare-in-Second-clause-second_moments
returns-in_err-make_bare-in-Second-clause-second_moments g c = bared (g.D.Disk.tells c.args.second.now) _ _ c.goes_first.ensures.kept.1 c.requires.second c.make_bare-in-Second.ensures.moments

pub returns-in_ok-make_bare-in-First-clause-first_moments : goal.returns-in_ok-make_bare-in-First-clause-first_moments
returns-in_ok-make_bare-in-First-clause-first_moments g c = bared (g.D.Disk.tells c.args.first.now) _ _ c.goes_first.ensures.kept.0 c.requires.first c.make_bare.ensures.moments

pub returns-in_ok-make_bare-in-First-clause-second_moments : goal.returns-in_ok-make_bare-in-First-clause-second_moments
returns-in_ok-make_bare-in-First-clause-second_moments g c = bared (g.D.Disk.tells c.args.second.now) _ _ c.goes_first.ensures.kept.1 c.requires.second c.make_bare-in-First.ensures.moments

pub returns-in_ok-make_bare-in-Second-clause-first_moments : goal.returns-in_ok-make_bare-in-Second-clause-first_moments
returns-in_ok-make_bare-in-Second-clause-first_moments g c = bared (g.D.Disk.tells c.args.first.now) _ _ c.goes_first.ensures.kept.0 c.requires.first c.make_bare-in-Second-2.ensures.moments

pub returns-in_ok-make_bare-in-Second-clause-second_moments : goal.returns-in_ok-make_bare-in-Second-clause-second_moments
returns-in_ok-make_bare-in-Second-clause-second_moments g c = bared (g.D.Disk.tells c.args.second.now) _ _ c.goes_first.ensures.kept.1 c.requires.second c.make_bare-in-Second.ensures.moments

pub returns-in_err-goes_first-clause-order : goal.returns-in_err-goes_first-clause-order
returns-in_err-goes_first-clause-order g c h e k f = neither_touched (first_to_go h.now.bytes k.now.bytes) (g.D.Disk.tells c.args.first.now) (g.D.Disk.tells c.args.second.now) _ _ c.goes_first.ensures.kept.0 c.goes_first.ensures.kept.1

pub returns-in_err-make_bare-in-First-clause-order : goal.returns-in_err-make_bare-in-First-clause-order
returns-in_err-make_bare-in-First-clause-order g c h e k f =
    subst (λ (s : Side). GoesBefore s (g.D.Disk.tells c.args.first.now) (g.D.Disk.tells c.args.second.now) (g.D.Disk.tells c.make_bare.new.disk) (g.D.Disk.tells c.goes_first.new.second)) (sym c.in-First.is ∙ c.in_ok-goes_first.ensures.side h e k f) (inl c.goes_first.ensures.kept.1)

pub returns-in_err-make_bare-in-Second-clause-order : goal.returns-in_err-make_bare-in-Second-clause-order
returns-in_err-make_bare-in-Second-clause-order g c h e k f =
    subst (λ (s : Side). GoesBefore s (g.D.Disk.tells c.args.first.now) (g.D.Disk.tells c.args.second.now) (g.D.Disk.tells c.goes_first.new.first) (g.D.Disk.tells c.make_bare-in-Second.new.disk)) (sym c.in-Second.is ∙ c.in_ok-goes_first.ensures.side h e k f) (inl c.goes_first.ensures.kept.0)

pub returns-in_ok-make_bare-in-First-clause-order : goal.returns-in_ok-make_bare-in-First-clause-order
returns-in_ok-make_bare-in-First-clause-order g c h e k f =
    subst (λ (s : Side). GoesBefore s (g.D.Disk.tells c.args.first.now) (g.D.Disk.tells c.args.second.now) (g.D.Disk.tells c.make_bare.new.disk) (g.D.Disk.tells c.make_bare-in-First.new.disk)) (sym c.in-First.is ∙ c.in_ok-goes_first.ensures.side h e k f) (inr c.in_ok-make_bare-in-First.ensures.done)

pub returns-in_ok-make_bare-in-Second-clause-order : goal.returns-in_ok-make_bare-in-Second-clause-order
returns-in_ok-make_bare-in-Second-clause-order g c h e k f =
    subst (λ (s : Side). GoesBefore s (g.D.Disk.tells c.args.first.now) (g.D.Disk.tells c.args.second.now) (g.D.Disk.tells c.make_bare-in-Second-2.new.disk) (g.D.Disk.tells c.make_bare-in-Second.new.disk)) (sym c.in-Second.is ∙ c.in_ok-goes_first.ensures.side h e k f) (inr c.in_ok-make_bare-in-Second.ensures.done)
