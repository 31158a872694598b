use Rattle.std.proofs.Common.{ap, subst, arith, length, get_or, ◌/◌, ◌%◌, length-set}
use Rattle.std.specs.List.{insert}
use Rattle.tiered_list.specs.Rows.{row_items}
use Rattle.tiered_list.proofs.RowLaws.{IsCarried, carry_first, carried_items}
use Rattle.tiered_list.proofs.list.put_in.Goals as goal

pub loop-carried-init : goal.loop-carried-init
loop-carried-init g c =
    let rows = c.args.rows.now in
    let place = c.args.place in
    let x = get_or rows (place / 256) c.index-rows-row.result in
    let size = (c.requires.tiered (place / 256) c.index-rows-row.result (omega arith)).len in
    let put = c.put-carried in record {
      long = length-set rows (place / 256) put.new.row;
      carried = carry_first rows (length (row_items rows)) (place / 256) (place % 256) place x put.new.row c.args.item put.result c.requires.tiered (omega arith) (omega arith) c.requires.place (omega (arith, size)) (ap (λ z. get_or rows (place / 256) z) c.index-rows-row.is) record {
        items = put.ensures.items;
        len = put.ensures.len;
        last = put.ensures.last;
        room = put.ensures.room;
      };
    }

pub returns-clause-items : goal.returns-clause-items
returns-clause-items g c =
    let rows = c.args.rows.now in
    let whole = insert (row_items rows) c.args.place c.args.item in
    let none = subst (λ carried. IsCarried c.loop-carried.rows c.loop-carried.row carried (length (row_items rows)) whole) c.in_default.is c.loop-carried.invariant.carried in
    carried_items c.loop-carried.rows (length (row_items rows)) c.loop-carried.row whole none
