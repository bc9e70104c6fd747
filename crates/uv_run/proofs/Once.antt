-- A run to the end leads to one stand alone.
use Rattle.std.proofs.Common.{◌≡◌, ℕ, zero, suc, ◌+◌, false, not, ◌||◌, List, [], ◌++◌, Option, None, Some, is_none, refl, sym, ap, subst, ◌∙◌, arith, append-nil}
use Rattle.uv_machine.specs.declared.call.InFlight.{InFlight}
use Rattle.uv_machine.specs.States.{call_of}
use Rattle.uv_machine.specs.Steps.{next_from}
use Rattle.uv_report.specs.declared.record.Said.{Said}
use Rattle.uv_run.specs.declared.flight.Teardown.{Teardown}
use Rattle.uv_run.specs.declared.reply.Reply.{Reply}
use Rattle.uv_run.specs.declared.reply.Telling.{Telling}
use Rattle.uv_run.specs.declared.reply.Telling.TheVariants as telling
use Rattle.uv_run.specs.Site.{Site, found_of, kept_at, state_at, teardown_of, is_busy, silence, teardown_turn, turn_by, event_of}
use Rattle.uv_run.specs.Stand.{Stand, begun_by}
use Rattle.uv_run.specs.Turns.{after_waiting, one_turn, turns_of, RunsOut}

pub idle_parts : (call : Option InFlight) (t : Option Teardown) → (not (is_none call) || not (is_none t)) ≡ false → (call ≡ None) × (t ≡ None)
idle_parts None None e = (refl, refl)
idle_parts None (Some t) e = absurd (cc)
idle_parts (Some call) None e = absurd (cc)
idle_parts (Some call) (Some t) e = absurd (cc)

-- an actor with nothing in flight makes no event
pub idle_event : (s : Site) (a : ℕ) → is_busy s a ≡ false → event_of s a ≡ silence s
unfolding event_of
idle_event s a e =
    let parts = idle_parts (call_of (state_at s) a) (teardown_of s a) e in
    ap (λ v. turn_by s a (next_from (state_at s) a (found_of s a) (kept_at s a) v)) parts.0 ∙ ap (teardown_turn s a) parts.1

unfoldable stand_with : Stand → List Reply → List Said → Stand
stand_with s replies said = record { site = s.site; begun = s.begun; replies = replies; said = said }

-- and nothing is told of it
silent_turn : (m : Telling) (s : Stand) (a n : ℕ) → after_waiting m s a n (silence s.site) ≡ s
unfolding stand_with
silent_turn (telling.Plus line) s a n = ap (λ v. stand_with s v ((s.said ++ []) ++ [])) (append-nil s.replies) ∙ ap (stand_with s s.replies) (append-nil (s.said ++ []) ∙ append-nil s.said)
silent_turn telling.ToEnd s a n = ap (λ v. stand_with s v ((s.said ++ []) ++ [])) (append-nil s.replies) ∙ ap (stand_with s s.replies) (append-nil (s.said ++ []) ∙ append-nil s.said)
silent_turn telling.Dying s a n = ap (λ v. stand_with s v ((s.said ++ []) ++ [])) (append-nil s.replies) ∙ ap (stand_with s s.replies) (append-nil (s.said ++ []) ∙ append-nil s.said)
silent_turn telling.Ending s a n = ap (λ v. stand_with s v ((s.said ++ []) ++ [])) (append-nil s.replies) ∙ ap (stand_with s s.replies) (append-nil (s.said ++ []) ∙ append-nil s.said)

idle_turn : (m : Telling) (s : Stand) (a : ℕ) → is_busy s.site a ≡ false → one_turn m s a ≡ s
unfolding one_turn
idle_turn m s a e = ap (after_waiting m s a (begun_by s a)) (idle_event s.site a e) ∙ silent_turn m s a (begun_by s a)

-- turns after the end change nothing
turns_stay : (k n : ℕ) (m : Telling) (s : Stand) (a : ℕ) → is_busy (turns_of n m s a).site a ≡ false → turns_of (k + n) m s a ≡ turns_of n m s a
unfolding turns_of
turns_stay zero n m s a e = ap (λ v. turns_of v m s a) (omega arith)
turns_stay (suc k) n m s a e =
    let before = turns_stay k n m s a e in
    let more : suc k + n ≡ suc (k + n) = omega arith in
    let P : Stand → Type 0 = λ v. is_busy v.site a ≡ false in
    ap (λ v. turns_of v m s a) more ∙ idle_turn m (turns_of (k + n) m s a) a (subst P (sym before) e) ∙ before

counts_agree : (j k : ℕ) (m : Telling) (s : Stand) (a : ℕ) → is_busy (turns_of j m s a).site a ≡ false → is_busy (turns_of k m s a).site a ≡ false → turns_of j m s a ≡ turns_of k m s a
counts_agree j k m s a ej ek =
    sym (turns_stay k j m s a ej) ∙ ap (λ v. turns_of v m s a) (let e : k + j ≡ j + k = omega arith in e) ∙ turns_stay j k m s a ek

pub RunsOut-once : (m : Telling) (s : Stand) (a : ℕ) (t u : Stand) → RunsOut m s a t → RunsOut m s a u → t ≡ u
RunsOut-once m s a t u p q =
    let P : Stand → Type 0 = λ v. is_busy v.site a ≡ false in
    p.made ∙ counts_agree p.count q.count m s a (subst P p.made p.ended) (subst P q.made q.ended) ∙ sym q.made
