-- The same parts are the same site.
use Rattle.std.proofs.Common.{◌≡◌, ℕ, List, Option, None, ap, refl, ◌∙◌}
use Rattle.uv_num.specs.Place.{at_place}
use Rattle.uv_machine.specs.declared.entry.Entry.TheVariants.{Tear}
use Rattle.uv_graph.specs.Slots.{put_slot}
use Rattle.uv_world.specs.declared.world.World.{World}
use Rattle.uv_world.specs.Seating.{stage_of}
use Rattle.uv_world.specs.Stages.{Stage, stage_then}
use Rattle.uv_run.specs.declared.flight.Killed.{Killed}
use Rattle.uv_run.specs.declared.flight.Teardown.{Teardown}
use Rattle.uv_run.specs.declared.flights.Flights.{Flights}
use Rattle.uv_run.specs.declared.heard.Event.TheVariants as event
use Rattle.uv_run.specs.declared.heard.Heard.{Heard}
use Rattle.uv_run.specs.Site.{Site, Turned, goes_on, with_entry, with_teardown}
use Rattle.uv_run.specs.Sound.{site_of}

-- a stage with teardowns in flight
abbrev pub site_with : Stage → List (Option Teardown) → List (Option Killed) → Site
site_with s t k = record { history = s.history; held = s.held; teardowns = t; killed = k }

pub site_same : (s s' : Stage) (t t' : List (Option Teardown)) (k k' : List (Option Killed)) → s ≡ s' → t ≡ t' → k ≡ k' → site_with s t k ≡ site_with s' t' k'
site_same s s' t t' k k' es et ek = ap (λ (v : Stage). site_with v t k) es ∙ (ap (λ (v : List (Option Teardown)). site_with s' v k) et ∙ ap (λ (v : List (Option Killed)). site_with s' t' v) ek)

-- and the same site and what is heard are the same turn
pub turned_same : (s s' : Site) (x x' : Heard) → s ≡ s' → x ≡ x' → (let t : Turned = record { site = s; heard = x } in t) ≡ record { site = s'; heard = x' }
turned_same s s' x x' es ex =
    ap (λ (v : Site). (let t : Turned = record { site = v; heard = x } in t)) es ∙ ap (λ (v : Heard). (let t : Turned = record { site = s'; heard = v } in t)) ex

-- Turns of calls of the world.

-- where it made no entry, the site stays
pub still_site : (old : Flights) (now : World) → stage_of now ≡ stage_of old.world → site_of (record old { world = now }) ≡ site_of old
still_site old now stage = site_same (stage_of now) (stage_of old.world) old.teardowns old.teardowns old.killed old.killed stage refl refl

pub still_turned : (old : Flights) (now : World) (heard is : Heard) → stage_of now ≡ stage_of old.world → heard ≡ is → (let t : Turned = record { site = site_of (record old { world = now }); heard = heard } in t) ≡ record { site = site_of old; heard = is }
still_turned old now heard is stage same = turned_same (site_of (record old { world = now })) (site_of old) heard is (still_site old now stage) same

-- the tear of a file
pub torn_turned :
    (a f by : ℕ) (old : Flights) (now : World) (heard : Heard) → stage_of now ≡ stage_then (stage_of old.world) (Tear f by) → heard ≡ goes_on (event.Torn f)
    → (let t : Turned = record { site = site_of (record old { world = now }); heard = heard } in t) ≡ record { site = with_entry (site_of old) (Tear f by); heard = goes_on (event.Torn f) }
torn_turned a f by old now heard stage is =
    turned_same (site_of (record old { world = now })) (with_entry (site_of old) (Tear f by)) heard (goes_on (event.Torn f))
    (site_same (stage_of now) (stage_then (stage_of old.world) (Tear f by)) old.teardowns old.teardowns old.killed old.killed stage refl refl) is

-- a teardown that ends with no entry
pub ended_turned :
    (a : ℕ) (old : Flights) (now : World) (new : Flights) (heard is : Heard) → stage_of now ≡ stage_of old.world → new ≡ record old { world = now; teardowns = at_place old.teardowns a (put_slot None) } → heard ≡ is
    → (let t : Turned = record { site = site_of new; heard = heard } in t) ≡ record { site = with_teardown (site_of old) a None; heard = is }
ended_turned a old now new heard is stage ended same =
    turned_same (site_of new) (with_teardown (site_of old) a None) heard is
    (ap site_of ended ∙ site_same (stage_of now) (stage_of old.world) (at_place old.teardowns a (put_slot None)) (at_place old.teardowns a (put_slot None)) old.killed old.killed stage refl refl) same
