-- The ranges of the attributes that a queue pair keeps.
use Rattle.std.proofs.Common.{◌≡◌, ℕ, zero, suc, ◌<◌, ◌≤◌, Bool, true, List, [], ◌∷◌, Option, None, Some, slice_get, refl, arith}
use Rattle.std.specs.List.{list_all}
use Rattle.std.specs.Option.{option_map_or}
use Rattle.std.specs.Prelude.{unwrap_or}
use Rattle.uv_num.specs.declared.attrs.QpAttr.{QpAttr}
use Rattle.uv_num.specs.declared.attrs.QpAttr.TheVariants.{Access, Pkey, Port, Qkey, Dev, Mtu, Timeout, Retry, Rnr, Rqpsn, Mra, RnrTimer, Sqpsn, Mdra, Dqpn}
use Rattle.uv_num.specs.declared.attrs.QpAttrs.{QpAttrs}
use Rattle.uv_num.specs.declared.attrs.TheConstants.{QP_ATTRS}
use Rattle.uv_num.specs.declared.limits.TheConstants.{DEVICES, MOST_RETRIES, MOST_TIME, PSNS, QKEYS, QP_NUMBERS}
use Rattle.uv_num.specs.Ranges.{attr_in_range, given_in_range, attrs_in_range}
use Rattle.uv_qp.specs.KeptAttrs.{later, over}

pub later_passes : (p : ℕ → Bool) (a b : Option ℕ) → option_map_or p a true ≡ true → option_map_or p b true ≡ true → option_map_or p (later a b) true ≡ true
later_passes p None b h k = k
later_passes p (Some n) b h k = h

pub over_given : (a b : QpAttrs) (n : QpAttr) → given_in_range a n ≡ true → given_in_range b n ≡ true → given_in_range (over a b) n ≡ true
over_given a b Access h k = later_passes (attr_in_range Access) a.access b.access h k
over_given a b Pkey h k = later_passes (attr_in_range Pkey) a.pkey b.pkey h k
over_given a b Port h k = later_passes (attr_in_range Port) a.port b.port h k
over_given a b Qkey h k = later_passes (attr_in_range Qkey) a.qkey b.qkey h k
over_given a b Dev h k = later_passes (attr_in_range Dev) a.dev b.dev h k
over_given a b Mtu h k = later_passes (attr_in_range Mtu) a.mtu b.mtu h k
over_given a b Timeout h k = later_passes (attr_in_range Timeout) a.timeout b.timeout h k
over_given a b Retry h k = later_passes (attr_in_range Retry) a.retry b.retry h k
over_given a b Rnr h k = later_passes (attr_in_range Rnr) a.rnr b.rnr h k
over_given a b Rqpsn h k = later_passes (attr_in_range Rqpsn) a.rqpsn b.rqpsn h k
over_given a b Mra h k = later_passes (attr_in_range Mra) a.mra b.mra h k
over_given a b RnrTimer h k = later_passes (attr_in_range RnrTimer) a.rnrtimer b.rnrtimer h k
over_given a b Sqpsn h k = later_passes (attr_in_range Sqpsn) a.sqpsn b.sqpsn h k
over_given a b Mdra h k = later_passes (attr_in_range Mdra) a.mdra b.mdra h k
over_given a b Dqpn h k = later_passes (attr_in_range Dqpn) a.dqpn b.dqpn h k

pub all_by_two : {X : Type 0} (f g h : X → Bool) → ((x : X) → f x ≡ true → g x ≡ true → h x ≡ true) → (xs : List X) → list_all f xs ≡ true → list_all g xs ≡ true → list_all h xs ≡ true
all_by_two f g h both [] p q = refl
all_by_two f g h both (x ∷ xs) p q = grind (arith, p, q, both x, all_by_two f g h both xs)

pub over_in_range : (a b : QpAttrs) → attrs_in_range a ≡ true → attrs_in_range b ≡ true → attrs_in_range (over a b) ≡ true
over_in_range a b p q = all_by_two (given_in_range a) (given_in_range b) (given_in_range (over a b)) (over_given a b) QP_ATTRS p q

-- what holds of all holds of the one at a place
pub all_at : {X : Type 0} (f : X → Bool) (xs : List X) (k : ℕ) (x : X) → list_all f xs ≡ true → slice_get xs k ≡ Some x → f x ≡ true
all_at f [] k x h e = grind (arith, e)
all_at f (y ∷ ys) zero x h e = grind (arith, h, e)
all_at f (y ∷ ys) (suc k) x h e = grind (arith, h, e, all_at f ys k x)

-- the least that a bound allows where none is given

psn_or_zero : (value : Option ℕ) → option_map_or (attr_in_range Rqpsn) value true ≡ true → unwrap_or value 0 < PSNS
psn_or_zero None h = omega arith
psn_or_zero (Some n) h = grind (arith, h)

pub rqpsn_or_zero : (a : QpAttrs) → attrs_in_range a ≡ true → unwrap_or a.rqpsn 0 < PSNS
rqpsn_or_zero a h = psn_or_zero a.rqpsn (all_at (given_in_range a) QP_ATTRS 9 Rqpsn h refl)

pub sqpsn_or_zero : (a : QpAttrs) → attrs_in_range a ≡ true → unwrap_or a.sqpsn 0 < PSNS
sqpsn_or_zero a h = psn_or_zero a.sqpsn (all_at (given_in_range a) QP_ATTRS 12 Sqpsn h refl)

pub dqpn_or_zero : (a : QpAttrs) → attrs_in_range a ≡ true → unwrap_or a.dqpn 0 < QP_NUMBERS
dqpn_or_zero a h = psn_or_zero a.dqpn (all_at (given_in_range a) QP_ATTRS 14 Dqpn h refl)

time_or_zero : (value : Option ℕ) → option_map_or (attr_in_range RnrTimer) value true ≡ true → unwrap_or value 0 ≤ MOST_TIME
time_or_zero None h = omega arith
time_or_zero (Some n) h = grind (arith, h)

pub rnr_timer_or_zero : (a : QpAttrs) → attrs_in_range a ≡ true → unwrap_or a.rnrtimer 0 ≤ MOST_TIME
rnr_timer_or_zero a h = time_or_zero a.rnrtimer (all_at (given_in_range a) QP_ATTRS 11 RnrTimer h refl)

count_or_zero : (value : Option ℕ) → option_map_or (attr_in_range Retry) value true ≡ true → unwrap_or value 0 ≤ MOST_RETRIES
count_or_zero None h = omega arith
count_or_zero (Some n) h = grind (arith, h)

pub retry_or_zero : (a : QpAttrs) → attrs_in_range a ≡ true → unwrap_or a.retry 0 ≤ MOST_RETRIES
retry_or_zero a h = count_or_zero a.retry (all_at (given_in_range a) QP_ATTRS 7 Retry h refl)

pub rnr_or_zero : (a : QpAttrs) → attrs_in_range a ≡ true → unwrap_or a.rnr 0 ≤ MOST_RETRIES
rnr_or_zero a h = count_or_zero a.rnr (all_at (given_in_range a) QP_ATTRS 8 Rnr h refl)

key_or_zero : (value : Option ℕ) → option_map_or (attr_in_range Qkey) value true ≡ true → unwrap_or value 0 < QKEYS
key_or_zero None h = omega arith
key_or_zero (Some n) h = grind (arith, h)

pub qkey_or_zero : (a : QpAttrs) → attrs_in_range a ≡ true → unwrap_or a.qkey 0 < QKEYS
qkey_or_zero a h = key_or_zero a.qkey (all_at (given_in_range a) QP_ATTRS 3 Qkey h refl)

device_or_zero : (value : Option ℕ) → option_map_or (attr_in_range Dev) value true ≡ true → unwrap_or value 0 < DEVICES
device_or_zero None h = omega arith
device_or_zero (Some n) h = grind (arith, h)

pub dev_or_zero : (a : QpAttrs) → attrs_in_range a ≡ true → unwrap_or a.dev 0 < DEVICES
dev_or_zero a h = device_or_zero a.dev (all_at (given_in_range a) QP_ATTRS 4 Dev h refl)

mtu_between : (value : Option ℕ) → option_map_or (attr_in_range Mtu) value true ≡ true → (256 ≤ unwrap_or value 256) × (unwrap_or value 256 ≤ 4096)
mtu_between None h = (omega arith, omega arith)
mtu_between (Some n) h = (grind (arith, h), grind (arith, h))

pub mtu_least : (a : QpAttrs) → attrs_in_range a ≡ true → 256 ≤ unwrap_or a.mtu 256
mtu_least a h = (mtu_between a.mtu (all_at (given_in_range a) QP_ATTRS 5 Mtu h refl)).0

pub mtu_most : (a : QpAttrs) → attrs_in_range a ≡ true → unwrap_or a.mtu 256 ≤ 4096
mtu_most a h = (mtu_between a.mtu (all_at (given_in_range a) QP_ATTRS 5 Mtu h refl)).1
