-- Lists of calls leave a legal history, and its replay.
use Rattle.std.proofs.Common.{◌≡◌, ◌≢◌, ℕ, ◌+◌, Bool, true, false, List, [], ◌∷◌, ◌++◌, Some, length, count_by, refl, ap, sym, ◌∙◌, subst, arith}
use Rattle.std.specs.Prelude.{◌||◌, cond}
use Rattle.std.specs.List.{list_any}
use Rattle.std.proofs.lemmas.Bool.{eq-eqb}
use Rattle.std.proofs.lemmas.List.Sums.{sum_by-cons}
use Rattle.std.proofs.lemmas.List.{append-nil, append_assoc, length-append}
use Rattle.uv_num.specs.Each.{Each}
use Rattle.uv_machine.specs.declared.entry.Entry.{Entry}
use Rattle.uv_machine.specs.declared.state.State.{State}
use Rattle.uv_machine.specs.States.{start}
use Rattle.uv_machine.specs.Histories.{IsLegal, state_of, state_from, after}
use Rattle.uv_graph.specs.Kept.{Kept, spare_of}
use Rattle.uv_graph.specs.Owns.{names, own_of}
use Rattle.uv_core.proofs.Sparing.{spare_one}
use Rattle.uv_core.specs.Plays.{Call, caller, is_by, takes_spare, IsCalled, GoesOn, CoreGoesOn}

state_from-append : (m : State) (xs ys : List Entry) → state_from m (xs ++ ys) ≡ state_from (state_from m xs) ys
state_from-append m [] ys = refl
state_from-append m (x ∷ xs) ys = state_from-append (after m x) xs ys

each_append : (P : Entry → Type 0) (xs ys : List Entry) → Each P xs → Each P ys → Each P (xs ++ ys)
each_append P [] ys all more = more
each_append P (x ∷ xs) ys all more = (all.0, each_append P xs ys all.1 more)

each_leads : (P Q : Entry → Type 0) (xs : List Entry) → ((x : Entry) → P x → Q x) → Each P xs → Each Q xs
each_leads P Q [] leads all = tt
each_leads P Q (x ∷ xs) leads all = (leads x all.0, each_leads P Q xs leads all.1)

neither : (a b : Bool) → (a || b) ≡ false → (a ≡ false) × (b ≡ false)
neither true b e = absurd cc
neither false b e = (refl, e)

-- who doesn't make a call isn't its caller
not_caller : (b : ℕ) (call : Call) → is_by b call ≡ false → b ≢ caller call
not_caller b call is e = let yes = eq-eqb (caller call) b (sym e) in let no : true ≡ false = sym yes ∙ is in cc

counted : {X : Type 0} (p : X → Bool) (x : X) (xs : List X) → count_by p (x ∷ xs) ≡ cond (p x) 1 0 + count_by p xs
counted p x xs = sum_by-cons (λ v. cond (p v) 1 0) x xs

goes_one : (first mid last : Kept) (call : Call) (calls : List Call) → IsCalled first mid call → GoesOn mid last calls → GoesOn first last (call ∷ calls)
goes_one first mid last call calls c g =
    let made = c.made.made ++ g.made in
    let more : last.history ≡ first.history ++ made = g.more ∙ ap (λ v. v ++ g.made) c.made.more ∙ append_assoc first.history c.made.made g.made in
    let long : length made ≡ length c.made.made + length g.made = length-append c.made.made g.made in
    let few = c.made.few in
    let rest = g.few in
    record {
      legal = g.legal;
      made = made;
      few = omega (arith, long, few, rest);
      more = more;
      replay = ap state_of more ∙ state_from-append start first.history made;
      named = λ b none.
          let parts = neither (is_by b call) (list_any (is_by b) calls) none in
          each_append (λ e. names e ≢ Some b) c.made.made g.made
          (each_leads (λ e. (n : ℕ) → names e ≡ Some n → n ≡ caller call) (λ e. names e ≢ Some b) c.made.made (λ e only is. not_caller b call parts.0 (only b is)) (c.seat c.made.made c.made.more))
          (g.named b parts.1);
      spare = λ b.
          let one = spare_one first mid call b c.gives in
          let later = g.spare b in
          let count = counted (takes_spare b) call calls in
          omega (arith, one, later, count);
      beside = λ b none.
          let parts = neither (is_by b call) (list_any (is_by b) calls) none in
          g.beside b parts.1 ∙ c.others b (not_caller b call parts.0);
    }

pub core_goes_on : CoreGoesOn
core_goes_on first last [] legal same =
    let P : Kept → Type 0 = λ k. IsLegal k.history in
    record {
      legal = subst P (sym same) legal;
      made = [];
      few = omega arith;
      more = ap (λ (k : Kept). k.history) same ∙ sym (append-nil first.history);
      replay = ap (λ (k : Kept). state_of k.history) same;
      named = λ b none. tt;
      spare = λ b. let kept = ap (λ k. spare_of k b) same in omega (arith, kept);
      beside = λ b none. ap (λ k. own_of k b) same;
    }
core_goes_on first last (call ∷ calls) legal (mid, (called, rest)) = goes_one first mid last call calls called (core_goes_on mid last calls called.legal rest)
