-- Runs of any machine: what stands behind them, and how much they read where the input was too long.
use Rattle.std.proofs.Common.{◌≡◌, ℕ, ◌+◌, ◌<◌, List, ◌++◌, length, None, Some, ◌∙◌, ap, subst, arith, length-append}
use Rattle.std.specs.Prelude.{Option, IfSome}
use Rattle.std.specs.Io.KnownBytes.{prepend_known}
use Rattle.statements.specs.declared.status.Status.{Status}
use Rattle.statements.specs.declared.status.Status.TheVariants.{InputTooLong}
use Rattle.statements.specs.Runs.{Machine, after, longest_input, Ran, Wrote}

-- what stands behind a run has a weaker property
pub Ran-weaker : {S I : Type 0} (m : Machine S I) (P Q : S → Type 0) (R W : Type 0) (status : Status) (source left before now : Option (List ℕ)) → ((s : S) → P s → Q s) → Ran m P R W status source left before now → Ran m Q R W status source left before now
Ran-weaker m P Q R W status source left before now weaker r =
    record {
      read = r.read;
      more = r.more;
      worked = r.worked;
      written = r.written;
      given = r.given;
      gained = r.gained;
      begins = r.begins;
      stands = weaker (after m r.worked m.start) r.stands;
      wrote = r.wrote;
    }

-- of a source that tells its bytes
read_more : (source more : Option (List ℕ)) (read : List ℕ) → source ≡ prepend_known read more → longest_input < length read → IfSome source (λ bytes. longest_input < length bytes)
read_more None more read given long = tt
read_more (Some bytes) None read given long = cc
read_more (Some bytes) (Some told) read given long = let is : bytes ≡ read ++ told = cc in let size : length bytes ≡ length read + length told = ap length is ∙ length-append read told in omega (arith, size, long)

pub ran_too_long : {S I : Type 0} (m : Machine S I) (P : S → Type 0) (R W : Type 0) (status : Status) (source left before now : Option (List ℕ)) → Ran m P R W status source left before now → status ≡ InputTooLong → IfSome source (λ bytes. longest_input < length bytes)
ran_too_long m P R W status source left before now r is =
    let long = subst (λ (x : Status). Wrote m R W x r.read r.more left r.worked r.written) is r.wrote in
    read_more source r.more r.read r.given long.too_long
