-- What a call asks of its caller's own part, as the graph's writers ask for it.
use Rattle.std.proofs.Common.{◌≡◌, ℕ, Bool, true, false, Option, Some, None, ap, sym, ◌∙◌}
use Rattle.std.specs.Prelude.{not, slice_get, option_map, unwrap_or}
use Rattle.std.proofs.lemmas.Option.{none-some, same_Some, slice_get-map}
use Rattle.uv_num.specs.declared.limits.TheConstants.{DRIVER}
use Rattle.uv_pool.specs.Deeds.{DeedFacts}
use Rattle.uv_machine.specs.declared.file.FilePhase.TheVariants.{Tearing}
use Rattle.uv_machine.specs.States.{phase_of, is_unplugged}
use Rattle.uv_machine.specs.Histories.{state_of}
use Rattle.uv_graph.specs.declared.out.Out.{Out}
use Rattle.uv_graph.specs.Conditions.{IsFinishing, IsReleasing, IsSweeper, Pulls}
use Rattle.uv_graph.specs.Hands.{ComesBuried}
use Rattle.uv_graph.specs.Kept.{Kept, out_of, kill_of}
use Rattle.uv_graph.specs.Owns.{own_of}
use Rattle.uv_graph.proofs.Tearing.{tears_this}

-- a deed that comes back to be finished is the one that is out
pub finishing_comes : (k : Kept) (c : ℕ) (t : DeedFacts) (out : Out) → IsFinishing (own_of k c) t → out_of k c ≡ Some out → ComesBuried (own_of k c).out (own_of k c).out_lives out.identity.id t
finishing_comes k c t out f is = record {
  out = f.out;
  is = f.out_is;
  object = ap (λ (v : Out). v.identity.id) (same_Some f.out out (sym f.out_is ∙ is));
  deed = f.deed;
}

-- and so is one that comes back to be released
pub releasing_comes : (k : Kept) (by f : ℕ) (t : DeedFacts) (out : Out) → IsReleasing (own_of k by) f t → kill_of k by ≡ Some out → ComesBuried (own_of k by).kill (own_of k by).kill_lives out.identity.id t
releasing_comes k by f t out r is = record {
  out = r.out;
  is = r.out_is;
  object = ap (λ (v : Out). v.identity.id) (same_Some r.out out (sym r.out_is ∙ is));
  deed = r.deed;
}

-- who sweeps a file tears it down
pub sweeper_tears : (k : Kept) (by f : ℕ) → IsSweeper (own_of k by) f → phase_of (state_of k.history) f ≡ Tearing by
sweeper_tears k by f s = tears_this (state_of k.history) by f s.tearing

unplugged_by : (slot : Option Bool) → option_map not slot ≡ Some true → not (unwrap_or slot false) ≡ true
unplugged_by None e = absurd (none-some true e)
unplugged_by (Some b) e = same_Some (not b) true e

-- who has pulled a device finds it unplugged
pub pulls_unplugged : (k : Kept) (d : ℕ) → Pulls (own_of k DRIVER) d → is_unplugged (state_of k.history) d ≡ true
pulls_unplugged k d p =
    let m = state_of k.history in
    unplugged_by (slice_get m.plugged d) (sym (slice_get-map not m.plugged d) ∙ p)
