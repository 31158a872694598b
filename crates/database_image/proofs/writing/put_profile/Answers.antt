use Rattle.std.proofs.Common.{◌≡◌, ◌∷◌, ◌++◌, [], ℕ, List, length}
use Rattle.std.specs.List.{flat_map}
use Rattle.byteorder.specs.Endian.{big_bytes, little_bytes}
use Rattle.database_image.specs.Fields.{filled, text_or_none}
use Rattle.access_levels.specs.Level.{level_rank}
use Rattle.database_image.specs.Description.{profile, entry, cond_entry, member, flag_rank, audit_rank}
use Rattle.database_image.proofs.Appended.{then, last}
use Rattle.database_image.proofs.writing.put_profile.Goals as goal

pub returns-clause-bytes : goal.returns-clause-bytes
unfolding profile
returns-clause-bytes c = λ names class entries.
    let x0 : List ℕ = big_bytes 2 (length c.args.row.now.name.text) ++ c.args.row.now.name.text in
    let e0 : c.put_pattern.new.out.items ≡ c.args.out.now.items ++ x0 = c.in_ok-put_pattern.ensures.bytes in
    let x1 : List ℕ = filled c.args.row.now.owner in
    let e1 : c.put_id.new.out.items ≡ c.put_pattern.new.out.items ++ x1 = c.in_ok-put_id.ensures.bytes in
    let x2 : List ℕ = level_rank c.args.row.now.uacc ∷ [] in
    let e2 : c.put_rank.new.out.items ≡ c.put_id.new.out.items ++ x2 = c.in_ok-put_rank.ensures in
    let x3 : List ℕ = flag_rank c.args.row.now.warning ∷ [] in
    let e3 : c.put_flag.new.out.items ≡ c.put_rank.new.out.items ++ x3 = c.in_ok-put_flag.ensures in
    let x4 : List ℕ = audit_rank c.args.row.now.audit.success ∷ [] in
    let e4 : c.put_audit.new.out.items ≡ c.put_flag.new.out.items ++ x4 = c.in_ok-put_audit.ensures in
    let x5 : List ℕ = audit_rank c.args.row.now.audit.failures ∷ [] in
    let e5 : c.put_audit-2.new.out.items ≡ c.put_audit.new.out.items ++ x5 = c.in_ok-put_audit-2.ensures in
    let x6 : List ℕ = audit_rank c.args.row.now.global_audit.success ∷ [] in
    let e6 : c.put_audit-3.new.out.items ≡ c.put_audit-2.new.out.items ++ x6 = c.in_ok-put_audit-3.ensures in
    let x7 : List ℕ = audit_rank c.args.row.now.global_audit.failures ∷ [] in
    let e7 : c.put_audit-4.new.out.items ≡ c.put_audit-3.new.out.items ++ x7 = c.in_ok-put_audit-4.ensures in
    let x8 : List ℕ = big_bytes 1 c.args.row.now.level in
    let e8 : c.put_level.new.out.items ≡ c.put_audit-4.new.out.items ++ x8 = c.in_ok-put_level.ensures.bytes in
    let x9 : List ℕ = little_bytes 32 c.args.row.now.categories in
    let e9 : c.put_set.new.out.items ≡ c.put_level.new.out.items ++ x9 = c.in_ok-put_set.ensures in
    let x10 : List ℕ = filled (text_or_none c.args.row.now.label) in
    let e10 : c.put_id_or_none.new.out.items ≡ c.put_set.new.out.items ++ x10 = c.in_ok-put_id_or_none.ensures.bytes in
    let x11 : List ℕ = big_bytes 2 (length c.args.row.now.standard) ++ flat_map (entry []).bytes c.args.row.now.standard in
    let e11 : c.put_standard.new.out.items ≡ c.put_id_or_none.new.out.items ++ x11 = c.in_ok-put_standard.ensures.bytes in
    let x12 : List ℕ = big_bytes 2 (length c.args.row.now.conditional) ++ flat_map (cond_entry []).bytes c.args.row.now.conditional in
    let e12 : c.put_conditional.new.out.items ≡ c.put_standard.new.out.items ++ x12 = c.in_ok-put_conditional.ensures.bytes in
    let x13 : List ℕ = big_bytes 2 (length c.args.row.now.members) ++ flat_map (member names class c.args.row.now.name.text []).bytes c.args.row.now.members in
    let e13 : c.put_profile_members.new.out.items ≡ c.put_conditional.new.out.items ++ x13 = c.in_ok-put_profile_members.ensures.bytes names class c.args.row.now.name.text in
    let r13 : List ℕ = x13 ++ [] in
    let t13 : c.put_profile_members.new.out.items ≡ c.put_conditional.new.out.items ++ r13 = last (c.put_conditional.new.out.items) (c.put_profile_members.new.out.items) x13 e13 in
    let r12 : List ℕ = x12 ++ r13 in
    let t12 : c.put_profile_members.new.out.items ≡ c.put_standard.new.out.items ++ r12 = then (c.put_standard.new.out.items) (c.put_conditional.new.out.items) (c.put_profile_members.new.out.items) x12 r13 e12 t13 in
    let r11 : List ℕ = x11 ++ r12 in
    let t11 : c.put_profile_members.new.out.items ≡ c.put_id_or_none.new.out.items ++ r11 = then (c.put_id_or_none.new.out.items) (c.put_standard.new.out.items) (c.put_profile_members.new.out.items) x11 r12 e11 t12 in
    let r10 : List ℕ = x10 ++ r11 in
    let t10 : c.put_profile_members.new.out.items ≡ c.put_set.new.out.items ++ r10 = then (c.put_set.new.out.items) (c.put_id_or_none.new.out.items) (c.put_profile_members.new.out.items) x10 r11 e10 t11 in
    let r9 : List ℕ = x9 ++ r10 in
    let t9 : c.put_profile_members.new.out.items ≡ c.put_level.new.out.items ++ r9 = then (c.put_level.new.out.items) (c.put_set.new.out.items) (c.put_profile_members.new.out.items) x9 r10 e9 t10 in
    let r8 : List ℕ = x8 ++ r9 in
    let t8 : c.put_profile_members.new.out.items ≡ c.put_audit-4.new.out.items ++ r8 = then (c.put_audit-4.new.out.items) (c.put_level.new.out.items) (c.put_profile_members.new.out.items) x8 r9 e8 t9 in
    let r7 : List ℕ = x7 ++ r8 in
    let t7 : c.put_profile_members.new.out.items ≡ c.put_audit-3.new.out.items ++ r7 = then (c.put_audit-3.new.out.items) (c.put_audit-4.new.out.items) (c.put_profile_members.new.out.items) x7 r8 e7 t8 in
    let r6 : List ℕ = x6 ++ r7 in
    let t6 : c.put_profile_members.new.out.items ≡ c.put_audit-2.new.out.items ++ r6 = then (c.put_audit-2.new.out.items) (c.put_audit-3.new.out.items) (c.put_profile_members.new.out.items) x6 r7 e6 t7 in
    let r5 : List ℕ = x5 ++ r6 in
    let t5 : c.put_profile_members.new.out.items ≡ c.put_audit.new.out.items ++ r5 = then (c.put_audit.new.out.items) (c.put_audit-2.new.out.items) (c.put_profile_members.new.out.items) x5 r6 e5 t6 in
    let r4 : List ℕ = x4 ++ r5 in
    let t4 : c.put_profile_members.new.out.items ≡ c.put_flag.new.out.items ++ r4 = then (c.put_flag.new.out.items) (c.put_audit.new.out.items) (c.put_profile_members.new.out.items) x4 r5 e4 t5 in
    let r3 : List ℕ = x3 ++ r4 in
    let t3 : c.put_profile_members.new.out.items ≡ c.put_rank.new.out.items ++ r3 = then (c.put_rank.new.out.items) (c.put_flag.new.out.items) (c.put_profile_members.new.out.items) x3 r4 e3 t4 in
    let r2 : List ℕ = x2 ++ r3 in
    let t2 : c.put_profile_members.new.out.items ≡ c.put_id.new.out.items ++ r2 = then (c.put_id.new.out.items) (c.put_rank.new.out.items) (c.put_profile_members.new.out.items) x2 r3 e2 t3 in
    let r1 : List ℕ = x1 ++ r2 in
    let t1 : c.put_profile_members.new.out.items ≡ c.put_pattern.new.out.items ++ r1 = then (c.put_pattern.new.out.items) (c.put_id.new.out.items) (c.put_profile_members.new.out.items) x1 r2 e1 t2 in
    let r0 : List ℕ = x0 ++ r1 in
    let t0 : c.put_profile_members.new.out.items ≡ c.args.out.now.items ++ r0 = then (c.args.out.now.items) (c.put_pattern.new.out.items) (c.put_profile_members.new.out.items) x0 r1 e0 t1 in
    t0
