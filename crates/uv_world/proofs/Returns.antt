-- What was lent comes back: the same cells hold something again, and what was left as it was is as it was.
use Rattle.std.proofs.Common.{◌≡◌, ◌∙◌, ℕ, zero, suc, Bool, true, false, cond, List, [], ◌∷◌, Option, None, Some, map, refl, sym, ap, subst}
use Rattle.std.proofs.lemmas.Bool.{eq-eqb, eqb-true}
use Rattle.std.proofs.lemmas.Cmp.{nat_cmp_total}
use Rattle.std.specs.Cmp.{unsigned_tied}
use Rattle.std.specs.FinMap as map
use Rattle.std.specs.Ordering.{nat_cmp, eq_by_cmp}
use Rattle.std.specs.Prelude.{◌==◌, ◌%◌, is_some, slice_get, option_map, if◌then◌else◌}
use Rattle.uv_num.specs.declared.kind.Kind.{Kind}
use Rattle.uv_num.specs.declared.kind.Kind.TheVariants as kind
use Rattle.uv_num.specs.declared.limits.TheConstants.{KEY_VARIANTS}
use Rattle.uv_num.specs.Each.{Each}
use Rattle.uv_num.specs.Place.{at_place}
use Rattle.uv_num.proofs.PlaceLaws.{at_place-at_place, at_place-cons}
use Rattle.uv_pool.specs.Keys.{key_parts}
use Rattle.uv_region.specs.Registered.{KnownRegion, Registered, known_of}
use Rattle.uv_region.specs.declared.action.Window.{Window}
use Rattle.uv_region.specs.Lent.{Lent, ReachedRegion, StaysKnown, known_reached}
use Rattle.uv_world.specs.declared.cells.Cell.{Cell}
use Rattle.uv_world.specs.declared.content.Bound.{Bound}
use Rattle.uv_world.specs.declared.content.Windowed.{Windowed}
use Rattle.uv_world.specs.declared.lending.Reach.{Reach}
use Rattle.uv_world.specs.Acting.{known_cell}
use Rattle.uv_world.specs.Celled.{cell_emptied, cell_filled, cell_value, cells_emptied, value_of_cell}
use Rattle.uv_world.specs.Fitting.{outline, something}
use Rattle.uv_world.specs.Lending.{AreDifferent, Lending, SameKeys, bound_home, bound_reach, home_of, home_by_kind, home_of_parts, lend_all, lend_one, lend_reached, lend_value, nothing_lent, reach_of, reach_of_kind, reach_of_parts, region_reach, return_all, return_one, return_value, value_by, window_home, window_of, window_reach}
use Rattle.uv_world.specs.Moving.{region_id}
use Rattle.uv_world.proofs.Lends.{apart_reached, each_by_two, none_there}
use Rattle.uv_world.proofs.Outlines.{changed_outline}

-- A cell of a region, by what is seen of the region: that it is there, what counts of it, or all.

abbrev pub seen : {K : Type 0} → (Registered → K) → Cell Registered → Cell K
seen look cell = record { generation = cell.generation; value = option_map look cell.value }

abbrev pub seen_lent : {K : Type 0} → (Registered → K) → Option ReachedRegion → Option K
seen_lent look None = None
seen_lent look (Some v) = Some (look v.0)

abbrev pub SameSeen : {K : Type 0} → (Registered → K) → Lent → Lent → Type 0
SameSeen look a b = (k : ℕ) → seen_lent look (map.get a k) ≡ seen_lent look (map.get b k)

-- A cell that is emptied, and filled again.

emptied_none : {K : Type 0} (look : Registered → K) (x : Cell Registered) → x.value ≡ None → seen look (cell_emptied x) ≡ seen look x
emptied_none {K} look x e = ap (λ (v : Option Registered). (let c : Cell K = record { generation = x.generation; value = option_map look v } in c)) (sym e)

filled_some : {K : Type 0} (look : Registered → K) (x : Cell Registered) (r : Registered) → x.value ≡ Some r → cell_filled (look r) (cell_emptied (seen look x)) ≡ seen look x
filled_some {K} look x r e = ap (λ (v : Option Registered). (let c : Cell K = record { generation = x.generation; value = option_map look v } in c)) (sym e)

holds_none : {K : Type 0} (look : Registered → K) (cells : List (Cell Registered)) (at : ℕ) → value_of_cell cells at ≡ None → map (seen look) (cells_emptied cells at) ≡ map (seen look) cells
holds_none look [] at e = refl
holds_none look (x ∷ xs) zero e = ap (λ v. v ∷ map (seen look) xs) (emptied_none look x e)
holds_none look (x ∷ xs) (suc at) e = ap (map (seen look)) (at_place-cons x xs at cell_emptied) ∙ ap (λ v. seen look x ∷ v) (holds_none look xs at e)

holds_some : {K : Type 0} (look : Registered → K) (cells : List (Cell Registered)) (at : ℕ) (r : Registered) → value_of_cell cells at ≡ Some r → at_place (map (seen look) cells) at (λ c. cell_filled (look r) (cell_emptied c)) ≡ map (seen look) cells
holds_some look [] at r e = refl
holds_some look (x ∷ xs) zero r e = ap (λ v. v ∷ map (seen look) xs) (filled_some look x r e)
holds_some look (x ∷ xs) (suc at) r e = at_place-cons (seen look x) (map (seen look) xs) at (λ c. cell_filled (look r) (cell_emptied c)) ∙ ap (λ v. seen look x ∷ v) (holds_some look xs at r e)

-- A region comes back to the cell that it was lent from.

if_some : {X : Type 0} (b : Bool) (x : Option X) (v : X) → (if b then x else None) ≡ Some v → x ≡ Some v
if_some true x v e = e
if_some false x v e = absurd cc

value_by_is : {T : Type 0} (variant : ℕ) (o : Option (Cell T)) (v : T) → value_by variant o ≡ Some v → cell_value o ≡ Some v
value_by_is variant None v e = e
value_by_is variant (Some cell) v e = if_some (cell.generation % KEY_VARIANTS == variant) cell.value v e

same_region : (x y : Reach) → Some x ≡ Some y → Some x.region ≡ Some y.region
same_region x y e = ap (option_map (λ (v : Reach). v.region)) e

region_home : (at : ℕ) (o : Option Registered) (reach : Reach) → region_reach at o ≡ Some reach → Some at ≡ Some reach.region
region_home at None reach e = absurd cc
region_home at (Some r) reach e = same_region (record { region = at; window = None }) reach e

home_bound : (regions : List (Cell Registered)) (w : Windowed) (b : Option Bound) (reach : Reach) → bound_reach regions w b ≡ Some reach → bound_home b ≡ Some reach.region
home_bound regions w None reach e = absurd cc
home_bound regions w (Some b) reach e =
    same_region (record { region = b.region; window = Some (window_of w b) }) reach (if_some (region_id (value_of_cell regions b.region) == b.object) (Some (record { region = b.region; window = Some (window_of w b) })) reach e)

home_window : (regions : List (Cell Registered)) (variant : ℕ) (o : Option (Cell Windowed)) (v : Option Windowed) (reach : Reach) → value_by variant o ≡ v → window_reach regions v ≡ Some reach → window_home (cell_value o) ≡ Some reach.region
home_window regions variant o None reach is e = absurd cc
home_window regions variant o (Some w) reach is e = ap window_home (value_by_is variant o w is) ∙ home_bound regions w w.bound reach e

home_kind : (regions : List (Cell Registered)) (windows : List (Cell Windowed)) (at variant : ℕ) (k : Kind) (reach : Reach) → reach_of_kind regions windows at variant k ≡ Some reach → home_by_kind windows at k ≡ Some reach.region
home_kind regions windows at variant kind.Pd reach e = absurd cc
home_kind regions windows at variant kind.Channel reach e = absurd cc
home_kind regions windows at variant kind.Cq reach e = absurd cc
home_kind regions windows at variant kind.Qp reach e = absurd cc
home_kind regions windows at variant kind.Srq reach e = absurd cc
home_kind regions windows at variant kind.Ah reach e = absurd cc
home_kind regions windows at variant kind.Mr reach e = region_home at (value_by variant (slice_get regions at)) reach e
home_kind regions windows at variant kind.Mw reach e = home_window regions variant (slice_get windows at) (value_by variant (slice_get windows at)) reach refl e

home_parts : (regions : List (Cell Registered)) (windows : List (Cell Windowed)) (parts : Option (Kind × ℕ × ℕ)) (reach : Reach) → reach_of_parts regions windows parts ≡ Some reach → home_of_parts windows parts ≡ Some reach.region
home_parts regions windows None reach e = absurd cc
home_parts regions windows (Some parts) reach e = home_kind regions windows parts.1 parts.2 parts.0 reach e

-- What is seen under keys.

removed_at : {K : Type 0} (look : Registered → K) (m m' : Lent) (key k : ℕ) (b : Bool) → eq_by_cmp nat_cmp k key ≡ b → map.get m key ≡ None → (b ≡ false → seen_lent look (map.get m' k) ≡ seen_lent look (map.get m k))
    → seen_lent look (cond b None (map.get m' k)) ≡ seen_lent look (map.get m k)
removed_at look m m' key k true tied none others = ap (seen_lent look) (sym none) ∙ ap (λ v. seen_lent look (map.get m v)) (sym (eqb-true k key (sym (unsigned_tied k key) ∙ tied)))
removed_at look m m' key k false tied none others = others refl

removed_same : {K : Type 0} (look : Registered → K) (m m' : Lent) (key : ℕ) → SameSeen look m' m → map.get m key ≡ None → SameSeen look (map.remove m' key) m
removed_same look m m' key same none k =
    ap (seen_lent look) (map.get-remove nat_cmp_total m' key k) ∙ removed_at look m m' key k (eq_by_cmp nat_cmp k key) refl none (λ f. same k)

removed_new : {K : Type 0} (look : Registered → K) (m m' : Lent) (key : ℕ) (v : ReachedRegion) → SameSeen look m' (map.insert m key v) → map.get m key ≡ None → SameSeen look (map.remove m' key) m
removed_new look m m' key v same none k =
    ap (seen_lent look) (map.get-remove nat_cmp_total m' key k)
    ∙ removed_at look m m' key k (eq_by_cmp nat_cmp k key) refl none (λ f. same k ∙ ap (seen_lent look) (map.get-insert nat_cmp_total m key v k ∙ ap (λ b. cond b (Some v) (map.get m k)) f))

there_new : {K : Type 0} (look : Registered → K) (m m' : Lent) (key : ℕ) (v : ReachedRegion) → SameSeen look m' (map.insert m key v) → seen_lent look (map.get m' key) ≡ Some (look v.0)
there_new look m m' key v same = same key ∙ ap (seen_lent look) (map.get-insert nat_cmp_total m key v key ∙ ap (λ b. cond b (Some v) (map.get m key)) (unsigned_tied key key ∙ eq-eqb key key refl))

-- One key.

abbrev pub Returned : {K : Type 0} → (Registered → K) → Lending → Lending → Type 0
Returned look l back = (map (seen look) back.regions ≡ map (seen look) l.regions) × SameSeen look back.lent l.lent

none_back : {K : Type 0} (look : Registered → K) (l back : Lending) (key : ℕ) (home : Option ℕ) (x : Option ReachedRegion) → seen_lent look x ≡ None → Returned look l back → map.get l.lent key ≡ None → Returned look l (return_value back key home x)
none_back look l back key None x there same none = same
none_back look l back key (Some at) None there same none = (same.0, removed_same look l.lent back.lent key same.1 none)
none_back look l back key (Some at) (Some r) there same none = absurd cc

some_back :
    {K : Type 0} (look : Registered → K) (l back : Lending) (key at : ℕ) (v : ReachedRegion) (x : Option ReachedRegion) → seen_lent look x ≡ Some (look v.0) → value_of_cell l.regions at ≡ Some v.0
    → map (seen look) back.regions ≡ map (seen look) (cells_emptied l.regions at) → SameSeen look back.lent (map.insert l.lent key v) → map.get l.lent key ≡ None → Returned look l (return_value back key (Some at) x)
some_back look l back key at v None there is outlined same none = absurd cc
some_back {K} look l back key at v (Some y) there is outlined same none =
    let alike : look y.0 ≡ look v.0 = cc in (
      changed_outline (seen look) (cell_filled y.0) (cell_filled (look y.0)) (λ c. refl) back.regions at
          ∙ (ap (λ (cells : List (Cell K)). at_place cells at (cell_filled (look y.0))) (outlined ∙ changed_outline (seen look) cell_emptied cell_emptied (λ c. refl) l.regions at)
          ∙ (at_place-at_place (map (seen look) l.regions) at cell_emptied (cell_filled (look y.0))
          ∙ (ap (λ (k : K). at_place (map (seen look) l.regions) at (λ c. cell_filled k (cell_emptied c))) alike
          ∙ holds_some look l.regions at v.0 is))),
      removed_new look l.lent back.lent key v same none,
    )

lent_back :
    {K : Type 0} (look : Registered → K) (windows : List (Cell Windowed)) (l back : Lending) (key : ℕ) (reach : Reach) (o : Option Registered) → reach_of l.regions windows key ≡ Some reach → value_of_cell l.regions reach.region ≡ o → map.get l.lent key ≡ None
    → Returned look (lend_value l key reach o) back → Returned look l (return_one windows back key)
lent_back look windows l back key reach None leads is none same =
    none_back look l back key (home_of windows key) (map.get back.lent key) (same.1 key ∙ ap (seen_lent look) none) (same.0 ∙ holds_none look l.regions reach.region is, same.1) none
lent_back look windows l back key reach (Some r) leads is none same =
    let home : home_of windows key ≡ Some reach.region = home_parts l.regions windows (key_parts key) reach leads in
    let P : Option ℕ → Type 0 = λ h. Returned look l (return_value back key h (map.get back.lent key)) in
    subst P (sym home) (some_back look l back key reach.region (r, reach.window) (map.get back.lent key) (there_new look l.lent back.lent key (r, reach.window) same.1) is same.0 same.1 none)

one_back : {K : Type 0} (look : Registered → K) (windows : List (Cell Windowed)) (l back : Lending) (key : ℕ) (o : Option Reach) → reach_of l.regions windows key ≡ o → map.get l.lent key ≡ None → Returned look (lend_reached l key o) back → Returned look l (return_one windows back key)
one_back look windows l back key None leads none same = none_back look l back key (home_of windows key) (map.get back.lent key) (same.1 key ∙ ap (seen_lent look) none) same none
one_back look windows l back key (Some reach) leads none same = lent_back look windows l back key reach (value_of_cell l.regions reach.region) leads refl none same

-- All keys.

abbrev pub back_after : List (Cell Windowed) → Lending → List ℕ → Lent → Lending
back_after windows l keys lent = return_all windows (record { regions = (lend_all windows l keys).regions; lent = lent }) keys

pub all_back :
    {K : Type 0} (look : Registered → K) (windows : List (Cell Windowed)) (l : Lending) (keys : List ℕ) (lent : Lent) → Each (λ k. map.get l.lent k ≡ None) keys → AreDifferent keys → SameSeen look lent (lend_all windows l keys).lent
    → Returned look l (back_after windows l keys lent)
all_back look windows l [] lent none different same = (refl, same)
all_back look windows l (key ∷ rest) lent none different same =
    let reach : Option Reach = reach_of l.regions windows key in
    one_back look windows l (back_after windows (lend_one windows l key) rest lent) key reach refl none.0
    (all_back look windows (lend_one windows l key) rest lent (each_by_two _ _ _ rest none.1 different.0 (λ k n o. apart_reached l key k reach n o)) different.1 same)

-- By what is seen of a region.

something_seen : (a b : Option ReachedRegion) → is_some a ≡ is_some b → seen_lent (λ (r : Registered). something r) a ≡ seen_lent (λ (r : Registered). something r) b
something_seen None None e = refl
something_seen None (Some b) e = absurd cc
something_seen (Some a) None e = absurd cc
something_seen (Some a) (Some b) e = refl

-- the same cells hold something again
pub outlines_back : (windows : List (Cell Windowed)) (regions : List (Cell Registered)) (keys : List ℕ) (lent : Lent) → AreDifferent keys → SameKeys lent (lend_all windows (nothing_lent regions) keys).lent
    → map outline (back_after windows (nothing_lent regions) keys lent).regions ≡ map outline regions
outlines_back windows regions keys lent different same =
    (all_back (λ (r : Registered). something r) windows (nothing_lent regions) keys lent (none_there keys) different (λ k. something_seen (map.get lent k) (map.get (lend_all windows (nothing_lent regions) keys).lent k) (same k))).0

known_seen : (a b : Option ReachedRegion) → option_map known_reached a ≡ option_map known_reached b → seen_lent known_of a ≡ seen_lent known_of b
known_seen None None e = refl
known_seen None (Some b) e = absurd cc
known_seen (Some a) None e = absurd cc
known_seen (Some a) (Some b) e = ap (option_map (λ (v : KnownRegion × Option Window). v.0)) e

-- all that counts of the regions is as it was, where it stayed
pub known_back : (windows : List (Cell Windowed)) (regions : List (Cell Registered)) (keys : List ℕ) (lent : Lent) → AreDifferent keys → StaysKnown (lend_all windows (nothing_lent regions) keys).lent lent
    → map known_cell (back_after windows (nothing_lent regions) keys lent).regions ≡ map known_cell regions
known_back windows regions keys lent different stays =
    (all_back known_of windows (nothing_lent regions) keys lent (none_there keys) different (λ k. known_seen (map.get lent k) (map.get (lend_all windows (nothing_lent regions) keys).lent k) (stays.same k))).0

whole_value : (v : Option Registered) → option_map (λ (r : Registered). r) v ≡ v
whole_value None = refl
whole_value (Some r) = refl

whole_cells : (cells : List (Cell Registered)) → map (seen (λ (r : Registered). r)) cells ≡ cells
whole_cells [] = refl
whole_cells (x ∷ xs) = ap (λ (v : Option Registered). (let c : Cell Registered = record { generation = x.generation; value = v } in c) ∷ map (seen (λ (r : Registered). r)) xs) (whole_value x.value) ∙ ap (λ v. x ∷ v) (whole_cells xs)

-- what comes back as it was lent leaves all as it was
pub lent_back_whole : (windows : List (Cell Windowed)) (regions : List (Cell Registered)) (keys : List ℕ) → AreDifferent keys
    → (back_after windows (nothing_lent regions) keys (lend_all windows (nothing_lent regions) keys).lent).regions ≡ regions
lent_back_whole windows regions keys different =
    sym (whole_cells (back_after windows (nothing_lent regions) keys (lend_all windows (nothing_lent regions) keys).lent).regions)
    ∙ ((all_back (λ (r : Registered). r) windows (nothing_lent regions) keys (lend_all windows (nothing_lent regions) keys).lent (none_there keys) different (λ k. refl)).0
    ∙ whole_cells regions)
