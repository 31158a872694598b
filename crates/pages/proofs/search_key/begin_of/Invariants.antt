use Rattle.std.proofs.Common.{◌≡◌, ◌<◌}
use Rattle.pages.specs.KeyBegin.{first_bytes, AreBytes}
use Rattle.pages.proofs.search_key.begin_of.Given as goal

abbrev pub invariant-loop-place : goal.invariant-loop-place
invariant-loop-place l = record {
  begin : l.begin ≡ first_bytes l.place l.key;
  bytes : 0 < l.place → AreBytes l.key;
}
