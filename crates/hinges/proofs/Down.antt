-- The way down: the segment that ends where it stands, hinges undone at its beginning, and on below.
use Rattle.std.proofs.Common.{◌≡◌, ℕ, zero, suc, ◌+◌, ◌-◌, ◌<◌, ◌≤◌, true, false, leb, List, [], ◌∷◌, ◌++◌, length, get_or, take, drop, ℤ, pos, ◌+ℤ◌, ◌*ℤ◌, Some, None, sym, refl, ap, ◌∙◌, inl, inr, arith}
use lib.IntN.{one, *ℤ-one}
use Rattle.std.specs.List.{AllByRecursion}
use Rattle.std.proofs.lemmas.List.{get_or_default, take_more, take-append-drop, map-append}
use Rattle.std.proofs.lemmas.Int.{ints}
use Rattle.std.proofs.lemmas.Bool.{cases_lt, le-leb, lt-leb}
use Rattle.raise.proofs.Straight.{plus_times}
use Rattle.segments.specs.declared.lines.Segment.{Segment}
use Rattle.hinges.specs.declared.hinge.Hinge.{Hinge}
use Rattle.hinges.specs.declared.sweep.Sweep.{Sweep}
use Rattle.hinges.specs.Below.{nearer_below, greatest_below}
use Rattle.hinges.specs.Hinges.{bends, turns, ats, Sized, Ordered, sum_of, segment_by}
use Rattle.hinges.specs.Sweep.{hinge_at, last_at, with_hinge, without_hinge, without_nth, line_of, one_back, Reached, SweepAt, UndoneAt, Fewer, Room}
use Rattle.hinges.proofs.Adding.{bends_joined, turns_joined, below_joined, bends_more, turns_more, room}
use Rattle.hinges.proofs.Shares.{times_more}

-- ---- the first, and the others

all_first : (P : Hinge → Type 0) (hs : List Hinge) (k : ℕ) → ((i : ℕ) (d : Hinge) → i < k → i < length hs → P (get_or hs i d)) → AllByRecursion P (take k hs)
all_first P hs zero f = tt
all_first P [] (suc k) f = tt
all_first P (h ∷ hs) (suc k) f = (f 0 h (omega arith) (omega arith), all_first P hs k (λ i d a b. f (suc i) d (omega (arith, a)) (omega (arith, b))))

all_others : (P : Hinge → Type 0) (hs : List Hinge) (k : ℕ) → ((i : ℕ) (d : Hinge) → k ≤ i → i < length hs → P (get_or hs i d)) → AllByRecursion P (drop k hs)
all_others P [] zero f = tt
all_others P [] (suc k) f = tt
all_others P (h ∷ hs) zero f = (f 0 h (omega arith) (omega arith), all_others P hs zero (λ i d a b. f (suc i) d (omega arith) (omega (arith, b))))
all_others P (h ∷ hs) (suc k) f = all_others P hs k (λ i d a b. f (suc i) d (omega (arith, a)) (omega (arith, b)))

-- those above a gross come to nothing there
none_bends : (hs : List Hinge) (g : ℕ) → AllByRecursion (λ h. suc g ≤ h.at) hs → (bends hs g ≡ pos 0) × (turns hs g ≡ pos 0)
unfolding bends turns
none_bends [] g a = (refl, refl)
none_bends (h ∷ hs) g a =
    let t : leb h.at g ≡ false = lt-leb h.at g (omega (arith, a.0)) in
    let i = none_bends hs g a.1 in
    (rw t (omega (arith, ints, i.0)), rw t (omega (arith, ints, i.1)))

stays : (hs : List Hinge) (x m : ℕ) → AllByRecursion (λ h. x ≤ h.at) hs → greatest_below (ats hs) x m ≡ m
unfolding greatest_below
stays [] x m a = refl
stays (h ∷ hs) x m a = let l = a.0 in let e : nearer_below x h.at m ≡ m = grind arith in ap (greatest_below (ats hs) x) e ∙ stays hs x m a.1

under : (hs : List Hinge) (x m c : ℕ) → m ≤ c → AllByRecursion (λ h. h.at ≤ c) hs → greatest_below (ats hs) x m ≤ c
unfolding greatest_below
under [] x m c le a = le
under (h ∷ hs) x m c le a = let l = a.0 in let n : nearer_below x h.at m ≤ c = grind arith in under hs x (nearer_below x h.at m) c n a.1

in_order : (hs : List Hinge) → Ordered hs → (i j : ℕ) (d e : Hinge) → i ≤ j → j < length hs → (get_or hs i d).at ≤ (get_or hs j e).at
in_order hs o i j d e le l = rw (get_or_default hs i d e (omega (arith, le, l))) (o i j e le l)

up_to_last : (hs : List Hinge) → Ordered hs → (n : ℕ) → n ≤ length hs → (i : ℕ) (d : Hinge) → i < n → (get_or hs i d).at ≤ last_at hs n
up_to_last hs o zero le i d lt = absurd (omega arith)
up_to_last hs o (suc k) le i d lt = in_order hs o i k d _ (omega arith) (omega arith)

-- ---- back along their line

back : (hs : List Hinge) (y g : ℕ) → y ≤ g → AllByRecursion (λ h. h.at ≤ y) hs → (bends hs g ≡ bends hs y +ℤ (turns hs y *ℤ pos (g - y))) × (turns hs g ≡ turns hs y)
unfolding bends turns
back [] y g le a = (omega (arith, ints), refl)
back (h ∷ hs) y g le a =
    let t : leb h.at g ≡ true = le-leb h.at g (omega (arith, a.0, le)) in
    let u : leb h.at y ≡ true = le-leb h.at y a.0 in
    let n : g - h.at ≡ (y - h.at) + (g - y) = omega (arith, a.0, le) in
    let i = back hs y g le a.1 in
    (rw (t, u, n) (omega (arith, ints, times_more h.pace (y - h.at) (g - y), plus_times h.pace (turns hs y) (g - y), i.0)), rw (t, u) (omega (arith, ints, i.1)))

module _ {hs : List Hinge} {g e : ℕ} {l : Sweep} (r : Reached hs g e l) where
  pub room_at : Sized hs → g ≤ 1000000000 → Room l
  room_at z low = rw (r.net, r.slope) (room hs l.many g z low r.many)

  others_high : AllByRecursion (λ h. e ≤ h.at) (drop l.many hs)
  others_high = all_others (λ h. e ≤ h.at) hs l.many r.high

  pub last_low : last_at hs l.many ≤ g
  last_low = go l.many refl
    where
      go : (n : ℕ) → n ≡ l.many → last_at hs n ≤ g
      go zero q = omega arith
      go (suc i) q = r.low i _ (omega (arith, q))

-- ---- the segment

module _ {hs : List Hinge} (o : Ordered hs) {g : ℕ} {l : Sweep} (r : SweepAt hs g l) where
  split : hs ≡ take l.many hs ++ drop l.many hs
  split = sym (take-append-drop l.many hs)

  all_bends : bends hs g ≡ l.net
  all_bends =
      ap (λ (qs : List Hinge). bends qs g) split ∙ bends_joined (take l.many hs) (drop l.many hs) g ∙ rw ((none_bends (drop l.many hs) g (others_high r)).0, r.net) (omega (arith, ints))

  all_turns : turns hs g ≡ l.slope
  all_turns =
      ap (λ (qs : List Hinge). turns qs g) split ∙ turns_joined (take l.many hs) (drop l.many hs) g ∙ rw ((none_bends (drop l.many hs) g (others_high r)).1, r.slope) (omega (arith, ints))

  first_greatest : (n : ℕ) → n ≡ l.many → greatest_below (ats (take n hs)) (suc g) 0 ≡ last_at hs n
  unfolding greatest_below
  first_greatest zero q = refl
  first_greatest (suc i) q =
      let d : Hinge = record { at = 0; jump = pos 0; pace = pos 0 } in
      let h = get_or hs i d in
      let l : i < length hs = omega (arith, q, r.many) in
      let n : i + 1 ≡ suc i = omega arith in
      let m = greatest_below (ats (take i hs)) (suc g) 0 in
      let a = all_first (λ k. k.at ≤ h.at) hs i (λ j e lo hi. in_order hs o j i e d (omega (arith, lo)) l) in
      let low : h.at ≤ g = r.low i d (omega (arith, q)) in
      let u : m ≤ h.at = under (take i hs) (suc g) 0 h.at (omega arith) a in
      let e : nearer_below (suc g) h.at m ≡ h.at = grind arith in
      ap (λ (k : ℕ). greatest_below (ats (take k hs)) (suc g) 0) (sym n) ∙ ap (λ (qs : List Hinge). greatest_below (ats qs) (suc g) 0) (take_more hs i d l) ∙
      ap (λ (xs : List ℕ). greatest_below xs (suc g) 0) (map-append (λ (k : Hinge). k.at) (take i hs) (h ∷ [])) ∙ below_joined (ats (take i hs)) (h.at ∷ []) (suc g) 0 ∙ e

  greatest : greatest_below (ats hs) (suc g) 0 ≡ last_at hs l.many
  greatest =
      let m = greatest_below (ats (take l.many hs)) (suc g) 0 in
      ap (λ (qs : List Hinge). greatest_below (ats qs) (suc g) 0) split ∙ ap (λ (xs : List ℕ). greatest_below xs (suc g) 0) (map-append (λ (h : Hinge). h.at) (take l.many hs) (drop l.many hs)) ∙
      below_joined (ats (take l.many hs)) (ats (drop l.many hs)) (suc g) 0 ∙ stays (drop l.many hs) (suc g) m (others_high r) ∙ first_greatest l.many refl

  pub segment_is : line_of l (last_at hs l.many) g ≡ segment_by (sum_of hs g) g
  segment_is = rw (greatest, all_bends, all_turns) refl

  pub order : last_at hs l.many ≤ g
  order = last_low r

  -- at its beginning nothing is undone yet
  pub goes_back : (s : Segment) → s ≡ segment_by (sum_of hs g) g → UndoneAt hs s.from (record { many = l.many; net = s.net; slope = l.slope })
  goes_back s e =
      let x = last_at hs l.many in
      let a = all_first (λ h. h.at ≤ x) hs l.many (λ i d lt hi. up_to_last hs o l.many r.many i d lt) in
      let b = back (take l.many hs) x g order a in
      rw (e ∙ sym segment_is) (record {
        many = r.many;
        low = up_to_last hs o l.many r.many;
        high = λ i d lo hi. omega (arith, r.high i d lo hi, order);
        net = rw (r.net, r.slope, b.1) (omega (arith, ints, b.0));
        slope = r.slope ∙ b.1;
      })

-- ---- hinges undone

-- the n-th goes, or none does
module _ (hs : List Hinge) (g : ℕ) (l : Sweep) (n i : ℕ) (e : suc i ≡ n) where
  pub nth_undone : g ≤ (hinge_at hs i).at → Some (without_hinge l (hinge_at hs i)) ≡ without_nth hs g l n
  nth_undone le = let t : leb g (hinge_at hs i).at ≡ true = le-leb g (hinge_at hs i).at le in rw (← e) (rw t refl)

  pub nth_stays : (hinge_at hs i).at < g → None ≡ without_nth hs g l n
  nth_stays lt = let t : leb g (hinge_at hs i).at ≡ false = lt-leb g (hinge_at hs i).at lt in rw (← e) (rw t refl)

module _ {hs : List Hinge} {g : ℕ} {l : Sweep} (r : UndoneAt hs g l) where
  pub fewer : (i : ℕ) (d : Hinge) → suc i ≡ l.many → (g ≤ (get_or hs i d).at) → UndoneAt hs g (without_hinge l (get_or hs i d)) × (i < l.many)
  fewer i d q not =
      let h = get_or hs i d in
      let l' : i < length hs = omega (arith, q, r.many) in
      let n : l.many - 1 ≡ i = omega (arith, q) in
      let at : h.at ≡ g = omega (arith, r.low i d (omega (arith, q)), not) in
      let z : g - h.at ≡ 0 = omega (arith, at) in
      let t : leb h.at g ≡ true = le-leb h.at g (omega (arith, at)) in
      let k : i + 1 ≡ l.many = omega (arith, q) in
      let b : bends (take l.many hs) g ≡ bends (take i hs) g +ℤ h.jump = ap (λ (m : ℕ). bends (take m hs) g) (sym k) ∙ bends_more hs i g d l' ∙ rw (t, z) (omega (arith, ints)) in
      let u : turns (take l.many hs) g ≡ turns (take i hs) g +ℤ h.pace = ap (λ (m : ℕ). turns (take m hs) g) (sym k) ∙ turns_more hs i g d l' ∙ rw t refl in (
        rw n (record {
          many = omega (arith, l');
          low = λ j e lt. r.low j e (omega (arith, lt, q));
          high = λ j e lo hi. elim (cases_lt i j) [
            | inl later ↦ r.high j e (omega (arith, later, q)) hi
            | inr here ↦ let same : j ≡ i = omega (arith, lo, here) in rw same (rw (get_or_default hs i e d l') (omega (arith, at)))
          ];
          net = omega (arith, ints, r.net, b);
          slope = omega (arith, ints, r.slope, u);
        }),
        omega (arith, q),
      )

  pub all_less : Ordered hs → (i : ℕ) (d : Hinge) → suc i ≡ l.many → (get_or hs i d).at < g → Fewer hs g l None
  all_less o i d q less j e lt = omega (arith, in_order hs o j i e d (omega (arith, lt, q)) (omega (arith, q, r.many)), less)

  pub below : 0 < g → Fewer hs g l None → SweepAt hs (g - 1) (one_back l)
  unfolding one
  below some none =
      let y = g - 1 in
      let a = all_first (λ h. h.at ≤ y) hs l.many (λ i d lt hi. omega (arith, none i d lt)) in
      let b = back (take l.many hs) y g (omega arith) a in
      let n : g - y ≡ 1 = omega (arith, some) in
      let v : bends (take l.many hs) g ≡ bends (take l.many hs) y +ℤ turns (take l.many hs) y = b.0 ∙ rw n (ap (λ (z : ℤ). bends (take l.many hs) y +ℤ z) (*ℤ-one (turns (take l.many hs) y))) in
      record {
        many = r.many;
        low = λ i d lt. omega (arith, none i d lt);
        high = λ i d lo hi. omega (arith, r.high i d lo hi, some);
        net = omega (arith, ints, r.net, r.slope, v, b.1);
        slope = r.slope ∙ b.1;
      }

-- ---- from the first on

-- the first i are all up to g
pub record Passed (hs : List Hinge) (g i : ℕ) (l : Sweep) : Type 0 where
  pub many : l.many ≡ i
  pub low : (j : ℕ) (d : Hinge) → j < i → (get_or hs j d).at ≤ g
  pub net : l.net ≡ bends (take i hs) g
  pub slope : l.slope ≡ turns (take i hs) g

pub passed_none : (hs : List Hinge) (g : ℕ) → Passed hs g 0 (record { many = 0; net = pos 0; slope = pos 0 })
unfolding bends turns
passed_none hs g = record { many = refl; low = λ j d lt. absurd (omega (arith, lt)); net = refl; slope = refl }

module _ {hs : List Hinge} {g i : ℕ} {l : Sweep} (p : Passed hs g i l) where
  pub passed_one : (d : Hinge) → i < length hs → (get_or hs i d).at ≤ g → Passed hs g (i + 1) (with_hinge l (get_or hs i d) g)
  passed_one d lt le =
      let h = get_or hs i d in
      let t : leb h.at g ≡ true = le-leb h.at g le in
      record {
        many = omega (arith, p.many);
        low = λ j e l. elim (cases_lt j i) [
          | inl before ↦ p.low j e before
          | inr here ↦ let same : j ≡ i = omega (arith, l, here) in rw same (rw (get_or_default hs i e d lt) le)
        ];
        net = rw p.net (sym (bends_more hs i g d lt ∙ rw t refl));
        slope = rw p.slope (sym (turns_more hs i g d lt ∙ rw t refl));
      }

  pub passed_room : Sized hs → g ≤ 1000000000 → i ≤ length hs → Room l
  passed_room z low le = rw (p.net, p.slope) (room hs i g z low le)

  -- the others are above it
  pub sweep_at : ((j : ℕ) (d : Hinge) → i ≤ j → j < length hs → suc g ≤ (get_or hs j d).at) → i ≤ length hs → SweepAt hs g l
  sweep_at high le = record {
    many = omega (arith, p.many, le);
    low = λ j d lt. p.low j d (omega (arith, lt, p.many));
    high = λ j d lo hi. high j d (omega (arith, lo, p.many)) hi;
    net = p.net ∙ ap (λ (n : ℕ). bends (take n hs) g) (sym p.many);
    slope = p.slope ∙ ap (λ (n : ℕ). turns (take n hs) g) (sym p.many);
  }

  pub stops : Ordered hs → (d : Hinge) → i < length hs → g < (get_or hs i d).at → SweepAt hs g l
  stops o d lt above = sweep_at (λ j e lo hi. omega (arith, in_order hs o i j d e lo hi, above)) (omega (arith, lt))

  pub ends : i ≡ length hs → SweepAt hs g l
  ends e = sweep_at (λ j d lo hi. absurd (omega (arith, lo, hi, e))) (omega (arith, e))
