-- While a file without calls is torn down, and its teardown has no deed out, none of its objects is doomed.
use Rattle.std.proofs.Common.{◌≡◌, ℕ, true, List, Option, None, ap, sym, ◌∙◌, ⊎_elim}
use Rattle.std.proofs.lemmas.Option.{none-some, same_Some}
use Rattle.std.proofs.lemmas.Bool.{and_parts, eqb-true}
use Rattle.uv_pool.specs.Homes.{Homes}
use Rattle.uv_machine.specs.declared.file.FilePhase.TheVariants as file
use Rattle.uv_machine.specs.declared.object.Object.{Object}
use Rattle.uv_machine.specs.Objects.{in_file, is_doomed, is_doomed_in}
use Rattle.uv_machine.specs.States.{object_with, phase_of, is_quiet}
use Rattle.uv_machine.specs.Histories.{state_of}
use Rattle.uv_machine.specs.Laws.{IsSwept}
use Rattle.uv_machine.specs.Reached.{IsIn}
use Rattle.uv_machine.proofs.Calling.{quiet_none, false_unless}
use Rattle.uv_machine.proofs.Members.{list_any-none}
use Rattle.uv_machine.proofs.Reaching.{Reached-state_of}
use Rattle.uv_pool.specs.Deeds.{DeedFacts}
use Rattle.uv_machine.proofs.Filing.{same_by}
use Rattle.uv_graph.specs.Kept.{Kept, kill_of}
use Rattle.uv_machine.specs.Logged.{Logged}
use Rattle.uv_graph.specs.Seats.{IsTied}
use Rattle.uv_graph.proofs.Holders.{object_is}

module _ {D : Type 0} (tell : D → DeedFacts) (log : Logged) (k : Kept) (pools : List (Homes D)) (held : List (Option D)) (t : IsTied tell log k pools held)
    (by f : ℕ) (tearing : phase_of (state_of log.history) f ≡ file.Tearing by) (quiet : is_quiet (state_of log.history) f ≡ true) (none : kill_of k by ≡ None) where
  none_doomed : (x : Object) → IsIn x (state_of log.history).objects → x.file ≡ f → is_doomed x.phase ≡ true → ⊥
  none_doomed x i same doomed =
      let m = state_of log.history in
      let r = Reached-state_of log.history t.legal in
      let w = t.handed x i doomed in
      ⊎_elim
      (λ e. (
      let h = t.outs w.actor w.out e in
      let placed = (r.holds_well w.actor h.call h.is).placed w.out.identity.id h.locked x i (sym w.object) in
      quiet_none m w.actor f h.call quiet h.is (sym placed ∙ same)))
      (λ e. (
      let h = t.kills w.actor w.out e in
      let one : h.item ≡ x = same_Some h.item x (sym h.there ∙ ap (object_with m) w.object ∙ object_is m x r i) in
      let torn : phase_of m f ≡ file.Tearing w.actor = ap (phase_of m) (sym (ap (λ (v : Object). v.file) one ∙ same)) ∙ h.torn in
      let mine : by ≡ w.actor = same_by by w.actor (sym tearing ∙ torn) in
      none-some w.out (sym none ∙ ap (kill_of k) mine ∙ e)))
      w.named

  -- the sweep of a file that has no deed out
  pub swept_here : IsSwept log.history f by
  swept_here = record {
    legal = t.legal;
    quiet = quiet;
    tearing = tearing;
    clear = list_any-none (is_doomed_in f) (state_of log.history).objects
        (λ x i. false_unless (is_doomed_in f x) (λ h. (let parts = and_parts (in_file f x) (is_doomed x.phase) h in none_doomed x i (eqb-true x.file f parts.0) parts.1)));
  }
