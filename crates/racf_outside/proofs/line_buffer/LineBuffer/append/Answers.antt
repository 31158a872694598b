use Rattle.std.proofs.Common.{◌≡◌, ◌-◌, ◌∙◌, length, take, vec_len, arith, ap}
use Rattle.std.specs.Result.{is_ok}
use Rattle.std.proofs.lemmas.List.{length-take}
use Rattle.racf_outside.proofs.Bytes.{appended}
use Rattle.racf_outside.proofs.line_buffer.LineBuffer.append.Goals as goal

-- there is room for what is added
pub returns-clause-text : goal.returns-clause-text
returns-clause-text c =
    let size : vec_len c.self.inside.text ≡ length c.self.inside.text.items = omega (arith, c.self.inside.text.ok.0) in
    let cut : length c.front.result.now ≡ length (take (4096 - c.len-room.result) c.args.piece.now) = ap length c.front.ensures in
    rw (← c.self.view_is) (appended 4096 c.self.inside.text.items c.args.piece.now c.extend_from_slice.new.self.items c.front.result.now (is_ok c.extend_from_slice.result) c.self.invariant.0 (c.extend_from_slice.ensures.succeeds (omega (arith, size, c.len-room.ensures, c.self.invariant.1, length-take (4096 - c.len-room.result) c.args.piece.now, cut))) c.extend_from_slice.ensures.items (c.front.ensures ∙ ap (λ n. take (4096 - n) c.args.piece.now) (c.len-room.ensures ∙ size)))
