-- What the steps of a whole call come to.
use Rattle.std.proofs.Common.{◌≡◌, ℕ, ◌≤◌, List, [], ◌++◌, length, subst, sym, ap, ◌∙◌}
use Rattle.std.specs.Prelude.{Option, Some, None}
use Rattle.atomic_table.specs.Table.{Me}
use Rattle.uv_order.specs.declared.signed.Signed.{Signed}
use Rattle.uv_order.specs.Signed.{entries, sign}
use Rattle.uv_order.specs.Names.{NameOnly, AreNamed}
use Rattle.uv_order.specs.Laws.{LogLaws}
use Rattle.uv_desk.specs.declared.view.View.{View}
use Rattle.uv_desk.specs.Plays.{Has, Took, passed}
use Rattle.uv_desk.specs.Answers.{Answer}

module _ {M E O I U : Type 0} (laws : LogLaws E) (history : M → List E) (own : M → ℕ → O) (names : E → Option ℕ) (answers : List E → ℕ → O → I → U → List E → O → Type 0) where
  abbrev Sat : Type 0
  Sat = Me (Option M) (View M E O)

  abbrev back : View M E O → List (Signed E) → Option O → Sat
  back v seen own' = (record v { ticket = None; held = None; seen = seen; own = own' }, [])

  pub turned : (me me1 me2 me3 : Sat) (m₀ m : M) (input : I) (output : U) → Took history own names me m₀ me1 → me2.0 ≡ me1.0 → Has history own names me2 m → passed history own names me2 me3
      → (made : List E) → length made ≤ 1 → NameOnly names me.0.number made → history m ≡ history m₀ ++ made → answers (history m₀) me.0.number (own m₀ me.0.number) input output made (own m me.0.number)
      → Answer answers names me.0.number me.0.seen me.0.own input output me3.0.seen me3.0.own × (me3 ≡ back me.0 me3.0.seen me3.0.own)
  turned me me1 me2 me3 m₀ m input output t same has p made few only grown a =
      let log : List (Signed E) = t.1 in let n : ℕ = me.0.number in
      let v2 : me2.0 ≡ record me.0 { ticket = Some t.0; held = Some m₀; seen = log } = same ∙ ap (λ (x : Sat). x.0) t.2 in
      let read : entries me2.0.seen ≡ history m₀ = ap (λ (x : View M E O). entries x.seen) v2 ∙ t.3.0 in
      let f : me3 ≡ back me.0 (log ++ sign n made) (Some (own m n)) = p m made has (grown ∙ ap (λ (z : List E). z ++ made) (sym read)) ∙ ap (λ (x : View M E O). back x (x.seen ++ sign x.number made) (Some (own m x.number))) v2 in
      let seen_is : me3.0.seen ≡ log ++ sign n made = ap (λ (x : Sat). x.0.seen) f in
      let own_is : me3.0.own ≡ Some (own m n) = ap (λ (x : Sat). x.0.own) f in
      let at : history m₀ ≡ entries (me.0.seen ++ t.3.1.rest) = sym t.3.0 ∙ ap (λ (z : List (Signed E)). entries z) t.3.1.goes_on in (
        record {
          between = t.3.1.rest;
          made = made;
          before = own m₀ n;
          behind = own m n;
          own_was = t.3.3;
          own_is = own_is;
          few = few;
          silent = t.3.1.silent;
          seen_is = seen_is ∙ ap (λ (z : List (Signed E)). z ++ sign n made) t.3.1.goes_on;
          named = subst (λ (z : List (Signed E)). AreNamed names z) (sym seen_is) (laws.naming.named_two names log (sign n made) t.3.2 (laws.naming.named_sign names n made only));
          answered = subst (λ (z : List E). answers z n (own m₀ n) input output made (own m n)) at a;
        },
        f ∙ (λ i. back me.0 (sym seen_is i) (sym own_is i)),
      )
