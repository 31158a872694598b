use Rattle.std.proofs.Common.{◌≡◌, ◌++◌, [], ℕ, List, length}
use Rattle.std.specs.List.{flat_map}
use Rattle.byteorder.specs.Endian.{big_bytes, little_bytes}
use Rattle.database_image.specs.Fields.{filled, text_or_none}
use Rattle.database_image.specs.Description.{user, attributes, connection}
use Rattle.database_image.proofs.Appended.{then, last}
use Rattle.database_image.proofs.writing.put_user.Goals as goal

pub returns-clause-bytes : goal.returns-clause-bytes
unfolding user
returns-clause-bytes c = λ n.
    let x0 : List ℕ = filled c.args.row.now.id in
    let e0 : c.put_id.new.out.items ≡ c.args.out.now.items ++ x0 = c.in_ok-put_id.ensures.bytes in
    let x1 : List ℕ = filled c.args.row.now.default_group in
    let e1 : c.put_id-2.new.out.items ≡ c.put_id.new.out.items ++ x1 = c.in_ok-put_id-2.ensures.bytes in
    let x2 : List ℕ = filled c.args.row.now.owner in
    let e2 : c.put_id-3.new.out.items ≡ c.put_id-2.new.out.items ++ x2 = c.in_ok-put_id-3.ensures.bytes in
    let x3 : List ℕ = big_bytes 1 (length c.args.row.now.name) ++ c.args.row.now.name in
    let e3 : c.put_name.new.out.items ≡ c.put_id-3.new.out.items ++ x3 = c.in_ok-put_name.ensures in
    let x4 : List ℕ = attributes.bytes c.args.row.now.attributes in
    let e4 : c.put_attributes.new.out.items ≡ c.put_name.new.out.items ++ x4 = c.in_ok-put_attributes.ensures in
    let x5 : List ℕ = big_bytes 1 c.args.row.now.level in
    let e5 : c.put_level.new.out.items ≡ c.put_attributes.new.out.items ++ x5 = c.in_ok-put_level.ensures.bytes in
    let x6 : List ℕ = little_bytes 32 c.args.row.now.categories in
    let e6 : c.put_set.new.out.items ≡ c.put_level.new.out.items ++ x6 = c.in_ok-put_set.ensures in
    let x7 : List ℕ = filled (text_or_none c.args.row.now.label) in
    let e7 : c.put_id_or_none.new.out.items ≡ c.put_set.new.out.items ++ x7 = c.in_ok-put_id_or_none.ensures.bytes in
    let x8 : List ℕ = big_bytes 1 (length c.args.row.now.classes) ++ flat_map filled c.args.row.now.classes in
    let e8 : c.put_user_classes.new.out.items ≡ c.put_id_or_none.new.out.items ++ x8 = c.in_ok-put_user_classes.ensures.bytes in
    let x9 : List ℕ = big_bytes 2 (length c.args.row.now.connects) ++ flat_map (connection []).bytes c.args.row.now.connects in
    let e9 : c.put_user_connects.new.out.items ≡ c.put_user_classes.new.out.items ++ x9 = c.in_ok-put_user_connects.ensures.bytes in
    let r9 : List ℕ = x9 ++ [] in
    let t9 : c.put_user_connects.new.out.items ≡ c.put_user_classes.new.out.items ++ r9 = last (c.put_user_classes.new.out.items) (c.put_user_connects.new.out.items) x9 e9 in
    let r8 : List ℕ = x8 ++ r9 in
    let t8 : c.put_user_connects.new.out.items ≡ c.put_id_or_none.new.out.items ++ r8 = then (c.put_id_or_none.new.out.items) (c.put_user_classes.new.out.items) (c.put_user_connects.new.out.items) x8 r9 e8 t9 in
    let r7 : List ℕ = x7 ++ r8 in
    let t7 : c.put_user_connects.new.out.items ≡ c.put_set.new.out.items ++ r7 = then (c.put_set.new.out.items) (c.put_id_or_none.new.out.items) (c.put_user_connects.new.out.items) x7 r8 e7 t8 in
    let r6 : List ℕ = x6 ++ r7 in
    let t6 : c.put_user_connects.new.out.items ≡ c.put_level.new.out.items ++ r6 = then (c.put_level.new.out.items) (c.put_set.new.out.items) (c.put_user_connects.new.out.items) x6 r7 e6 t7 in
    let r5 : List ℕ = x5 ++ r6 in
    let t5 : c.put_user_connects.new.out.items ≡ c.put_attributes.new.out.items ++ r5 = then (c.put_attributes.new.out.items) (c.put_level.new.out.items) (c.put_user_connects.new.out.items) x5 r6 e5 t6 in
    let r4 : List ℕ = x4 ++ r5 in
    let t4 : c.put_user_connects.new.out.items ≡ c.put_name.new.out.items ++ r4 = then (c.put_name.new.out.items) (c.put_attributes.new.out.items) (c.put_user_connects.new.out.items) x4 r5 e4 t5 in
    let r3 : List ℕ = x3 ++ r4 in
    let t3 : c.put_user_connects.new.out.items ≡ c.put_id-3.new.out.items ++ r3 = then (c.put_id-3.new.out.items) (c.put_name.new.out.items) (c.put_user_connects.new.out.items) x3 r4 e3 t4 in
    let r2 : List ℕ = x2 ++ r3 in
    let t2 : c.put_user_connects.new.out.items ≡ c.put_id-2.new.out.items ++ r2 = then (c.put_id-2.new.out.items) (c.put_id-3.new.out.items) (c.put_user_connects.new.out.items) x2 r3 e2 t3 in
    let r1 : List ℕ = x1 ++ r2 in
    let t1 : c.put_user_connects.new.out.items ≡ c.put_id.new.out.items ++ r1 = then (c.put_id.new.out.items) (c.put_id-2.new.out.items) (c.put_user_connects.new.out.items) x1 r2 e1 t2 in
    let r0 : List ℕ = x0 ++ r1 in
    let t0 : c.put_user_connects.new.out.items ≡ c.args.out.now.items ++ r0 = then (c.args.out.now.items) (c.put_id.new.out.items) (c.put_user_connects.new.out.items) x0 r1 e0 t1 in
    t0
