use Rattle.std.proofs.Common.{◌<◌, length, arith}
use Rattle.std.proofs.Math.ListN.{length-set}
use Rattle.std.proofs.lemmas.List.{take_more_set, map_more}
use Rattle.command_words.specs.Bytes.{upper}
use Rattle.command_words.proofs.folded_word.FoldedWord.of.Goals as goal

pub loop-i-preserved : goal.loop-i-preserved
loop-i-preserved g c =
    let room : c.loop-i.i < length c.loop-i.bytes = omega arith in
    let here : c.loop-i.i < length c.args.word.now = omega arith in
    let store = take_more_set c.loop-i.bytes c.loop-i.i c.folded.result room in
    let more = map_more upper c.args.word.now c.loop-i.i 0 here in
    let same_length = length-set c.loop-i.bytes c.loop-i.i c.folded.result in
    record { full = cc; same = cc }
