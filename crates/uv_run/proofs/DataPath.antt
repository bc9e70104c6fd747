-- Calls of the data path leave a run sound: contents alone change.
use Rattle.std.proofs.Common.{◌≡◌, ℕ, suc, ◌+◌, ◌<◌, ◌≤◌, true, List, [], ◌∷◌, ◌++◌, drop, get_or, length, map, refl, ap, sym, ◌∙◌, subst, arith, append-nil, append_assoc, length-append}
use Rattle.std.specs.Prelude.{◌||◌, is_none, not}
use Rattle.std.proofs.lemmas.List.{at_drop_more}
use Rattle.std.proofs.Math.ListN.{drop_of_length-le}
use Rattle.uv_wr.specs.declared.completion.Completion.{Completion}
use Rattle.uv_wr.specs.declared.tried.PollTried.{PollTried}
use Rattle.uv_wr.specs.declared.tried.PollTried.TheVariants as poll
use Rattle.uv_machine.specs.Histories.{state_of}
use Rattle.uv_machine.specs.States.{call_of, phase_of}
use Rattle.uv_graph.specs.Kept.{Kept}
use Rattle.uv_graph.specs.Owns.{own_of}
use Rattle.uv_report.specs.declared.record.Said.{Said}
use Rattle.uv_report.specs.declared.saying.Saying.{Saying}
use Rattle.uv_report.specs.declared.saying.Saying.TheVariants as saying
use Rattle.uv_world.specs.declared.world.World.{World}
use Rattle.uv_world.specs.Completing.{held_polled, poll_answer}
use Rattle.uv_world.specs.Holdings.{Held}
use Rattle.uv_world.specs.Named.{OnlyContents, stage_holding, value_named}
use Rattle.uv_world.specs.Seating.{IsWorld, stage_of}
use Rattle.uv_run.specs.declared.flights.Flights.{Flights}
use Rattle.uv_run.specs.DataPath.{Polls, after_shown, poll_text, polled_again, polled_up_to, polls_shown, said_under, taken_by, with_held, with_holding, with_texts}
use Rattle.uv_run.specs.Runs.{StaysSound}
use Rattle.uv_run.specs.Site.{Site, killed_of, teardown_of}
use Rattle.uv_run.specs.Sound.{HandsFit, IsSound, is_ending, site_of}
use Rattle.uv_run.specs.Stand.{Stand, with_said}
use Rattle.uv_run.proofs.Sites.{site_same}

pub held_site : (old : Flights) (now : World) (h : Held) → stage_of now ≡ stage_holding (stage_of old.world) h → site_of (record old { world = now }) ≡ with_held (site_of old) h
held_site old now h stage = site_same (stage_of now) (stage_holding (stage_of old.world) h) old.teardowns old.teardowns old.killed old.killed stage refl refl

pub contents_stay : (old : Flights) (now : World) → IsSound old → IsWorld now → OnlyContents old.world now → StaysSound old (record old { world = now })
contents_stay old now sound world only = record {
  sound = record {
    world = world;
    teardowns = sound.teardowns;
    killed = sound.killed;
    fits = λ a.
        let P : Kept → Type 0 = λ k. HandsFit (own_of k a) (teardown_of (site_of old) a) (killed_of (site_of old) a) in
        subst P (sym only.core) (sound.fits a);
  };
  spares = ap (λ (k : Kept). k.spares) only.core;
  idle = λ b is. ap (λ (k : Kept). not (is_none (call_of (state_of k.history) b)) || not (is_none (teardown_of (site_of old) b))) only.core ∙ is;
  ends = λ f is. (let P : Kept → Type 0 = λ k. is_ending (phase_of (state_of k.history) f) ≡ true in subst P (sym only.core) is);
}

-- what is held after a call, and what stands then
pub holding_is : (s : Stand) (t : Site) (h : Held) → t ≡ with_held s.site h → (let u : Stand = record s { site = t } in u) ≡ with_holding s h
holding_is s t h holds = ap (λ (v : Site). (let u : Stand = record s { site = v } in u)) holds

-- one text is told
pub one_told : (s holding done : Stand) (n : ℕ) (h : Held) (text is : Saying) → holding ≡ with_holding s h → text ≡ is → done ≡ with_said holding n text → done ≡ after_shown s n (record { held = h; texts = is ∷ [] })
one_told s holding done n h text is holds same told = told ∙ ap (λ (v : Stand). with_said v n text) holds ∙ ap (λ (v : Saying). with_said (with_holding s h) n v) same

-- Polls one after the other.

abbrev pub polls_with : Held → List Completion → PollTried → Polls
polls_with h taken last = record { held = h; taken = taken; last = last }

pub polled_none : (h : Held) (cq : ℕ × ℕ) (taken : List Completion) → taken ≡ [] → polls_with h taken (poll.Dead 0) ≡ polled_up_to 0 h cq
unfolding polled_up_to
polled_none h cq taken none = ap (λ v. polls_with h v (poll.Dead 0)) none

pub polled_more :
    (n : ℕ) (h before after : Held) (cq : ℕ × ℕ) (taken more : List Completion) (last tried : PollTried) → polls_with before taken last ≡ polled_up_to n h cq → after ≡ held_polled before cq → tried ≡ poll_answer (value_named before.rings cq)
    → more ≡ taken ++ taken_by tried → polls_with after more tried ≡ polled_up_to (n + 1) h cq
unfolding polled_up_to
polled_more n h before after cq taken more last tried so left told put =
    let next : suc n ≡ n + 1 = omega arith in
    ap (λ v. polls_with v more tried) left ∙ ap (λ v. polls_with (held_polled before cq) v tried) put ∙ ap (λ v. polls_with (held_polled before cq) (taken ++ taken_by v) v) told
    ∙ ap (polled_again cq) so ∙ ap (λ (k : ℕ). polled_up_to k h cq) next

-- a poll takes one completion at most
pub taken_few : (n : ℕ) (taken more : List Completion) (tried : PollTried) → length taken ≤ n → more ≡ taken ++ taken_by tried → length more ≤ n + 1
taken_few n taken more (poll.Got completion overrun) few put = let e : length more ≡ length (taken ++ completion ∷ []) = ap length put in omega (arith, few, e, length-append taken (completion ∷ []))
taken_few n taken more (poll.Empty overrun) few put = let e : length more ≡ length taken = ap length (put ∙ append-nil taken) in omega (arith, few, e)
taken_few n taken more (poll.Again word) few put = let e : length more ≡ length taken = ap length (put ∙ append-nil taken) in omega (arith, few, e)
taken_few n taken more (poll.Dead word) few put = let e : length more ≡ length taken = ap length (put ∙ append-nil taken) in omega (arith, few, e)

pub holds_then : (s t u : Site) (h : Held) → t ≡ with_held s t.held → u ≡ with_held t h → u ≡ with_held s u.held
holds_then s t u h first second = let P : Site → Type 0 = λ v. v ≡ with_held s v.held in subst P (sym second) (ap (λ (v : Site). with_held v h) first)

-- Texts one after the other.

texts_join : (s : Stand) (n : ℕ) (text : Saying) (rest : List Saying) → with_texts (with_said s n text) n rest ≡ with_texts s n (text ∷ rest)
texts_join s n text rest = ap (λ (v : List Said). (let t : Stand = record s { said = v } in t)) (append_assoc s.said (said_under n text ∷ []) (map (said_under n) rest))

pub texts_more : (s t u : Stand) (n : ℕ) (text : Saying) (rest all : List Saying) → with_texts t n (text ∷ rest) ≡ with_texts s n all → u ≡ with_said t n text → with_texts u n rest ≡ with_texts s n all
texts_more s t u n text rest all so one = ap (λ (v : Stand). with_texts v n rest) one ∙ texts_join t n text rest ∙ so

pub texts_none : (s : Stand) (n : ℕ) → with_texts s n [] ≡ s
texts_none s n = ap (λ (v : List Said). (let t : Stand = record s { said = v } in t)) (append-nil s.said)

-- one completion more is told
pub completions_more :
    (s t u : Stand) (n i : ℕ) (taken : List Completion) (d : Completion) → i < length taken → u ≡ with_said t n (saying.Completed (get_or taken i d))
    → with_texts t n (map saying.Completed (drop i taken)) ≡ with_texts s n (map saying.Completed taken) → with_texts u n (map saying.Completed (drop (i + 1) taken)) ≡ with_texts s n (map saying.Completed taken)
completions_more s t u n i taken d low one so =
    texts_more s t u n (saying.Completed (get_or taken i d)) (map saying.Completed (drop (i + 1) taken)) (map saying.Completed taken)
    (sym (at_drop_more (λ (xs : List Completion). with_texts t n (map saying.Completed xs)) taken i d low) ∙ so) one

-- and then all are
pub completions_all :
    (s t : Stand) (n i : ℕ) (taken : List Completion) → length taken ≤ i → with_texts t n (map saying.Completed (drop i taken)) ≡ with_texts s n (map saying.Completed taken) → t ≡ with_texts s n (map saying.Completed taken)
completions_all s t n i taken high so = sym (texts_none t n) ∙ sym (ap (λ (xs : List Completion). with_texts t n (map saying.Completed xs)) (drop_of_length-le taken high)) ∙ so

-- what polls leave and tell
pub polls_told :
    (s holding counted done : Stand) (n : ℕ) (h : Held) (taken : List Completion) (last : PollTried) (text : Saying) (p : Polls) → polls_with h taken last ≡ p → holding ≡ with_holding s h → text ≡ poll_text (length taken) last
    → counted ≡ with_said holding n text → done ≡ with_texts counted n (map saying.Completed taken) → done ≡ after_shown s n (polls_shown p)
polls_told s holding counted done n h taken last text p so holds is first rest =
    let more : List Saying = map saying.Completed taken in
    rest ∙ ap (λ (v : Stand). with_texts v n more) first ∙ texts_join holding n text more ∙ ap (λ (v : Stand). with_texts v n (text ∷ more)) holds
    ∙ ap (λ (v : Saying). with_texts (with_holding s h) n (v ∷ more)) is ∙ ap (λ (v : Polls). after_shown s n (polls_shown v)) so

pub stays_same : (old mid new : Flights) → StaysSound old mid → new ≡ mid → StaysSound old new
stays_same old mid new stays same = subst (StaysSound old) (sym same) stays
