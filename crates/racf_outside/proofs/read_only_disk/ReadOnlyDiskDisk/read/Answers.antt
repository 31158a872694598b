use Rattle.std.proofs.Common.{◌≡◌, ◌-◌, min, length, take, drop, sym, ◌∙◌, ap, subst}
use Rattle.racf_outside.specs.DiskLaws.{held_bytes}
use Rattle.racf_outside.proofs.read_only_disk.ReadOnlyDiskDisk.read.Goals as goal

-- what it holds is what a read gives
pub returns-clause-found : goal.returns-clause-found
returns-clause-found c = λ history told.
    subst (λ bytes. (c.fill.result ≡ min (length c.fill.new.into) (length bytes - c.args.at)) × (take c.fill.result c.fill.new.into ≡ take c.fill.result (drop c.args.at bytes)))
    (c.deref.ensures.value ∙ ap (λ d. d.bytes) c.self.view_is ∙ sym (held_bytes c.args.self.now history told))
    (c.fill.ensures.count, c.fill.ensures.found)
