-- What a reading that gave a value says of its steps.
use Rattle.std.proofs.Common.{◌≡◌, ℕ, Option, None, Some, Result, Ok, Err, refl, ap}
use Rattle.command_values.specs.declared.faults.Syntax.{Syntax}
use Rattle.command_values.specs.Results.{◌>>=◌, or_fault}
use Rattle.command_values.specs.WordsOfValues.{unless_stray}

pub bind-ok : {A B : Type 0} (r : Result A Syntax) (f : A → Result B Syntax) (y : B) → (r >>= f) ≡ Ok y → (x : A) × (r ≡ Ok x) × (f x ≡ Ok y)
bind-ok (Ok x) f y h = (x, refl, h)
bind-ok (Err e) f y h = cc

pub or_fault-ok : {A : Type 0} (o : Option A) (e : Syntax) (x : A) → or_fault o e ≡ Ok x → o ≡ Some x
or_fault-ok None e x h = cc
or_fault-ok (Some y) e x h = cc

pub unless_stray-ok : {A : Type 0} (o : Option ℕ) (u v : A) → unless_stray o u ≡ Ok v → u ≡ v
unless_stray-ok None u v h = cc
unless_stray-ok (Some p) u v h = cc

ok-same : {A : Type 0} (x y : A) → let read : Result A Syntax = Ok x in read ≡ Ok y → x ≡ y
ok-same x y h = cc

pub pair-ok : {A : Type 0} (j k : ℕ) (u v : A) → let read : Result (ℕ × A) Syntax = Ok (j, u) in read ≡ Ok (k, v) → (j ≡ k) × (u ≡ v)
pair-ok {A} j k u v h =
    let same = ok-same (j, u) (k, v) h in
    (ap (λ (x : ℕ × A). x.0) same, ap (λ (x : ℕ × A). x.1) same)

pub first-ok : {A B : Type 0} (u v : A) (x y : B) → let read : Result (A × B) Syntax = Ok (u, x) in read ≡ Ok (v, y) → u ≡ v
first-ok {A} {B} u v x y h = ap (λ (z : A × B). z.0) (ok-same (u, x) (v, y) h)

pub triple-ok : {A B C : Type 0} (a d : A) (b e : B) (c f : C) → let read : Result (A × B × C) Syntax = Ok (a, b, c) in read ≡ Ok (d, e, f) → a ≡ d
triple-ok {A} {B} {C} a d b e c f h = ap (λ (z : A × B × C). z.0) (ok-same (a, b, c) (d, e, f) h)

pub triple-second : {A B C : Type 0} (a d : A) (b e : B) (c f : C) → let read : Result (A × B × C) Syntax = Ok (a, b, c) in read ≡ Ok (d, e, f) → b ≡ e
triple-second {A} {B} {C} a d b e c f h = ap (λ (z : A × B × C). z.1) (ok-same (a, b, c) (d, e, f) h)
