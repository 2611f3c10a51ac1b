-- Two stopped programs that answer a client alike: they are asked the same, show the same, and go on alike.
use Rattle.std.specs.Prelude.{◌≡◌, ◌<◌, ◌^◌, ℕ, true, All, List, ◌∷◌, length, slice_get, Ok, Err, Option, Some, None}
use Rattle.std.specs.List.{AllZip}
use Rattle.cmm_script.specs.Walk.{Shown}
use Rattle.cmm_program.specs.Asking.{Askable, Chain, Cursor, Exit}
use Rattle.cmm_program.specs.Commands as client
use Rattle.cmm_program.specs.Commands.{After, Answer, Asked, Left, all_fit}
use Rattle.cmm_program.specs.Memory.{IsByte}

-- `Same` says which two programs are taken together, `Is` which of their activations, and `GoesOn` which that go on.
module _ {A S R B T Q : Type 0} (Same : S → T → Type 0) (Is : S → T → A → B → Type 0) (GoesOn : R → Q → Type 0) where
  -- whole chains of the same activations
  pub record ChainsAlike (s : S) (t : T) (chain : Chain A) (other : Chain B) : Type 0 where
    pub whole : chain.broken ≡ None
    pub also : other.broken ≡ None
    pub each : AllZip (Is s t) chain.activations other.activations

  -- exits that take values of the same widths, and lead on alike with values that fit
  abbrev pub ExitsAlike : Option (Exit R) → Option (Exit Q) → Type 0
  ExitsAlike (Some e) (Some f) =
      (e.widths ≡ f.widths) × ((values : List ℕ) → length e.widths ≡ length values → all_fit e.widths values ≡ true → GoesOn (e.resumed values) (f.resumed values))
  ExitsAlike None None = Unit {0}
  ExitsAlike _ _ = ⊥

  -- after a change they are taken together, and so are all activations that were
  pub record StayAlike (s : S) (t : T) (s' : S) (t' : T) : Type 0 where
    pub same : Same s' t'
    pub each : (a : A) (b : B) → Is s t a b → Is s' t' a b

  abbrev pub ChangesAlike : S → T → Option S → Option T → Type 0
  ChangesAlike s t (Some s') (Some t') = StayAlike s t s' t'
  ChangesAlike s t None None = Unit {0}
  ChangesAlike s t _ _ = ⊥

  -- what is required of both
  pub record AreAlike (k : Askable A S R) (l : Askable B T Q) : Type 0 where
    pub chain : (s : S) (t : T) → Same s t → ChainsAlike s t (k.chain s) (l.chain t)
    pub running : (s : S) (t : T) → Same s t → ChainsAlike s t (k.running s) (l.running t)
    pub older : (s : S) (t : T) (a : A) (b : B) → Same s t → Is s t a b → ChainsAlike s t (k.older s a) (l.older t b)
    pub shown : (s : S) (t : T) (a : A) (b : B) → Same s t → Is s t a b → k.shown s a ≡ l.shown t b
    -- a variable that is live takes a value that fits
    pub set : (s : S) (t : T) (a : A) (b : B) (n value : ℕ) (v : Shown) (old : ℕ) → Same s t → Is s t a b → slice_get (k.shown s a).variables n ≡ Some v →
        v.value ≡ Some old → value < 2 ^ v.width → StayAlike s t (k.with_variable s a n value) (l.with_variable t b n value)
    pub poked : (s : S) (t : T) (name : List ℕ) (offset : ℕ) (bytes : List ℕ) → All IsByte bytes → Same s t →
        ChangesAlike s t (k.with_data s name offset bytes) (l.with_data t name offset bytes)
    -- a return is required of the youngest activation alone
    pub returned : (s : S) (t : T) (a : A) (b : B) (older : List A) (others : List B) (n : ℕ) → Same s t → Is s t a b → (k.running s).activations ≡ a ∷ older →
        (l.running t).activations ≡ b ∷ others → ExitsAlike (k.return_exit s a n) (l.return_exit t b n)
    pub unwound : (s : S) (t : T) (a : A) (b : B) (n : ℕ) → Same s t → Is s t a b → ExitsAlike (k.unwind_exit s a n) (l.unwind_exit t b n)
    pub cut : (s : S) (t : T) (a : A) (b : B) (value : ℕ) → Same s t → Is s t a b → ExitsAlike (k.cut_exit s a value) (l.cut_exit t b value)

  -- ---- what they answer

  abbrev pub BothAre : S → T → Option A → Option B → Type 0
  BothAre s t (Some a) (Some b) = Is s t a b
  BothAre s t None None = Unit {0}
  BothAre s t _ _ = ⊥

  abbrev pub CursorsAlike : S → T → Cursor A → Cursor B → Type 0
  CursorsAlike s t c d = BothAre s t c.activation d.activation

  abbrev pub AfterAlike : After A S R → After B T Q → Type 0
  AfterAlike (client.Goes c s) (client.Goes d t) = Same s t × CursorsAlike s t c d
  AfterAlike (client.Resumes r) (client.Resumes q) = GoesOn r q
  AfterAlike client.Stops client.Stops = Unit {0}
  AfterAlike _ _ = ⊥

  abbrev pub AskedAlike : Asked A S R → Asked B T Q → Type 0
  AskedAlike (Ok r) (Ok q) = (r.text ≡ q.text) × AfterAlike r.after q.after
  AskedAlike (Err e) (Err f) = e ≡ f
  AskedAlike _ _ = ⊥

  abbrev pub LeftAlike : Left S R → Left T Q → Type 0
  LeftAlike (client.Running r) (client.Running q) = GoesOn r q
  LeftAlike (client.Stopped s) (client.Stopped t) = Same s t
  LeftAlike _ _ = ⊥

  -- the same lines, and a chain that never breaks
  pub record AnswersAlike (x : Answer S R) (y : Answer T Q) : Type 0 where
    pub text : x.text ≡ y.text
    pub left : LeftAlike x.left y.left
