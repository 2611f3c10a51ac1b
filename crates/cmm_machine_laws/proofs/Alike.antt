-- Programs that are asked alike answer alike: command by command, and so each answer.
use Rattle.std.proofs.Common.{◌≡◌, ℕ, ◌<◌, ◌==◌, ◌^◌, not, nat_lt, Bool, true, false, List, [], ◌∷◌, ◌++◌, map, length, slice_get, Result, Ok, Err, Option, Some, None, refl, ap, subst, ◌∙◌, arith}
use Rattle.std.specs.List.{AllZip}
use Rattle.std.proofs.lemmas.Bool.Decides.{nat_tests}
use Rattle.cmm_rules.specs.declared.rule.Rule.{Rule}
use Rattle.cmm_rules.specs.declared.rule.Rule.TheVariants.{NoActivation, NoVariable, DeadVariable, DoesNotFit, OtherCount, InvariantVariable, NoCut, NoPlace}
use Rattle.cmm_script.specs.declared.script.Script.{Script}
use Rattle.cmm_script.specs.declared.script.Command.{Command}
use Rattle.cmm_script.specs.declared.script.Command.TheVariants.{List as ListAll, Youngest, Next, Desc, Seek, Var, Set, Poke, Return, Unwind, Cut, Stop}
use Rattle.cmm_script.specs.Walk as walk
use Rattle.cmm_script.specs.Walk.{Shown, activation_texts, walk_text}
use Rattle.cmm_script.specs.Lines.{at_line, descriptor_line, ok_line, refused_line, resume_line, var_line}
use Rattle.cmm_program.specs.Errors.{and_then, provided, given}
use Rattle.cmm_program.specs.Asking.{Askable, Break, Chain, Cursor, Exit, at_youngest}
use Rattle.cmm_program.specs.Commands as client
use Rattle.cmm_program.specs.Commands.{Answer, Asked, Reply, all_fit, answer_of, answer_to, asked, at_first, commands_for, number_given, numbers_given, says, span_value}
use Rattle.cmm_program.specs.Layout.{bytes_of}
use Rattle.cmm_machine_laws.specs.Alike.{AnswersAlike, AreAlike, AskedAlike, BothAre, ChainsAlike, ChangesAlike, CursorsAlike, ExitsAlike, StayAlike}
use Rattle.cmm_machine_laws.proofs.StoredWords.{bytes_of_number}

less_than : (a b : ℕ) → nat_lt a b ≡ true → a < b
less_than a b is = grind (arith, nat_tests)

module _ {A S R B T Q : Type 0} (Same : S → T → Type 0) (Is : S → T → A → B → Type 0) (GoesOn : R → Q → Type 0) where
  abbrev Both : Asked A S R → Asked B T Q → Type 0
  Both x y = AskedAlike Same Is GoesOn x y

  then_both : {X : Type 0} (r : Result X Rule) (f : X → Asked A S R) (g : X → Asked B T Q) → ((x : X) → Both (f x) (g x)) → Both (and_then r f) (and_then r g)
  then_both (Ok x) f g both = both x
  then_both (Err refusal) f g both = refl

  provided_both : (b : Bool) (refusal : Rule) (f : Asked A S R) (g : Asked B T Q) → (b ≡ true → Both f g) → Both (provided b refusal f) (provided b refusal g)
  provided_both true refusal f g both = both refl
  provided_both false refusal f g both = refl

  given_both : {X : Type 0} (refusal : Rule) (o : Option X) (f : X → Asked A S R) (g : X → Asked B T Q) → ((x : X) → o ≡ Some x → Both (f x) (g x)) →
      Both (given o refusal f) (given o refusal g)
  given_both refusal (Some x) f g both = both x refl
  given_both refusal None f g both = refl

  module _ (s : S) (t : T) where
    cursor_both : (c : Option A) (d : Option B) (f : A → Asked A S R) (g : B → Asked B T Q) → BothAre Same Is GoesOn s t c d →
        ((a : A) (b : B) → c ≡ Some a → d ≡ Some b → Is s t a b → Both (f a) (g b)) → Both (given c NoActivation f) (given d NoActivation g)
    cursor_both (Some a) (Some b) f g is both = both a b refl refl is
    cursor_both None None f g is both = refl
    cursor_both (Some a) None f g is both = absurd is
    cursor_both None (Some b) f g is both = absurd is

    past_both : (refusal : Rule) (x : Option Break) (y : Option Break) → x ≡ None → y ≡ None → Both (client.past x refusal) (client.past y refusal)
    past_both refusal None None is also = refl
    past_both refusal (Some b) y is also = absurd (cc)
    past_both refusal None (Some b) is also = absurd (cc)

    first_both : (xs : List A) (ys : List B) (x : Option Break) (y : Option Break) (f : A → Asked A S R) (g : B → Asked B T Q) → x ≡ None → y ≡ None → AllZip (Is s t) xs ys →
        ((a : A) (b : B) (older : List A) (others : List B) → xs ≡ a ∷ older → ys ≡ b ∷ others → Is s t a b → Both (f a) (g b)) →
        Both (elim xs as (λ _. Asked A S R) [ [] ↦ client.past x NoActivation | a ∷ older ↦ f a ]) (elim ys as (λ _. Asked B T Q) [ [] ↦ client.past y NoActivation | b ∷ others ↦ g b ])
    first_both [] [] x y f g is also each both = past_both NoActivation x y is also
    first_both (a ∷ older) (b ∷ others) x y f g is also each both = both a b older others refl refl each.0
    first_both [] (b ∷ others) x y f g is also each both = absurd each
    first_both (a ∷ older) [] x y f g is also each both = absurd each

    at_first_both : (chain : Chain A) (other : Chain B) (f : A → Asked A S R) (g : B → Asked B T Q) → ChainsAlike Same Is GoesOn s t chain other →
        ((a : A) (b : B) (older : List A) (others : List B) → chain.activations ≡ a ∷ older → other.activations ≡ b ∷ others → Is s t a b → Both (f a) (g b)) →
        Both (at_first chain f) (at_first other g)
    at_first_both chain other f g are both = first_both chain.activations other.activations chain.broken other.broken f g are.whole are.also are.each both

  module _ (k : Askable A S R) (l : Askable B T Q) (alike : AreAlike Same Is GoesOn k l) where
    module _ (s : S) (t : T) (same : Same s t) where
      says_both : (text others : List ℕ) (c : Cursor A) (d : Cursor B) → text ≡ others → CursorsAlike Same Is GoesOn s t c d → Both (says text c s) (says others d t)
      says_both text others c d is cursors = (is, (same, cursors))

      stands_both : (a : A) (b : B) → Is s t a b → Both (client.stands k s a) (client.stands l t b)
      stands_both a b is =
          says_both (at_line (k.shown s a).procedure (k.shown s a).site) (at_line (l.shown t b).procedure (l.shown t b).site) record { activation = Some a } record { activation = Some b }
          (ap (λ (x : walk.Activation). at_line x.procedure x.site) (alike.shown s t a b same is)) is

      descriptor_both : (token : ℕ) (a : A) (b : B) → Is s t a b → client.descriptor k s token a ≡ client.descriptor l t token b
      descriptor_both token a b is = ap (λ (x : walk.Activation). span_value token x.spans) (alike.shown s t a b same is)

      walk_both : (xs : List A) (ys : List B) → AllZip (Is s t) xs ys → map (k.shown s) xs ≡ map (l.shown t) ys
      walk_both [] [] each = refl
      walk_both (a ∷ xs) (b ∷ ys) each =
          ap (λ (x : walk.Activation). x ∷ map (k.shown s) xs) (alike.shown s t a b same each.0) ∙ ap (λ (rest : List walk.Activation). l.shown t b ∷ rest) (walk_both xs ys each.1)
      walk_both [] (b ∷ ys) each = absurd each
      walk_both (a ∷ xs) [] each = absurd each

      listed_by : (c : Cursor A) (d : Cursor B) (w v : List walk.Activation) (x y : Option Break) → CursorsAlike Same Is GoesOn s t c d → w ≡ v → x ≡ None → y ≡ None →
          Both (elim x as (λ _. Asked A S R) [ None ↦ says (walk_text w) c s | Some b ↦ Ok record { text = activation_texts 0 w; after = client.Tears b } ])
          (elim y as (λ _. Asked B T Q) [ None ↦ says (walk_text v) d t | Some b ↦ Ok record { text = activation_texts 0 v; after = client.Tears b } ])
      listed_by c d w v None None cursors is whole also = says_both (walk_text w) (walk_text v) c d (ap walk_text is) cursors
      listed_by c d w v (Some b) y cursors is whole also = absurd (cc)
      listed_by c d w v None (Some b) cursors is whole also = absurd (cc)

      listed_both : (c : Cursor A) (d : Cursor B) (chain : Chain A) (other : Chain B) → CursorsAlike Same Is GoesOn s t c d → ChainsAlike Same Is GoesOn s t chain other →
          Both (client.listed k c s chain) (client.listed l d t other)
      listed_both c d chain other cursors are =
          listed_by c d (map (k.shown s) chain.activations) (map (l.shown t) other.activations) chain.broken other.broken cursors
          (walk_both chain.activations other.activations are.each) are.whole are.also

      sought_step : (x y : Bool) (f more : Asked A S R) (g others : Asked B T Q) → x ≡ y → Both f g → Both more others →
          Both (elim x as (λ _. Asked A S R) [ true ↦ f | false ↦ more ]) (elim y as (λ _. Asked B T Q) [ true ↦ g | false ↦ others ])
      sought_step true true f more g others is here there = here
      sought_step false false f more g others is here there = there
      sought_step true false f more g others is here there = absurd (cc)
      sought_step false true f more g others is here there = absurd (cc)

      sought_both : (token value : ℕ) (x y : Option Break) (xs : List A) (ys : List B) → x ≡ None → y ≡ None → AllZip (Is s t) xs ys →
          Both (client.sought k s token value x xs) (client.sought l t token value y ys)
      sought_both token value x y [] [] whole also each = past_both s t NoActivation x y whole also
      sought_both token value x y (a ∷ xs) (b ∷ ys) whole also each =
          sought_step (client.descriptor k s token a == value) (client.descriptor l t token b == value) _ _ _ _
          (ap (λ (n : ℕ). n == value) (descriptor_both token a b each.0)) (stands_both a b each.0) (sought_both token value x y xs ys whole also each.1)
      sought_both token value x y [] (b ∷ ys) whole also each = absurd each
      sought_both token value x y (a ∷ xs) [] whole also each = absurd each

      -- a variable of an activation, as it is shown
      variable_both : (n : ℕ) (a : A) (b : B) (f : Shown → Asked A S R) (g : Shown → Asked B T Q) → Is s t a b →
          ((v : Shown) → slice_get (k.shown s a).variables n ≡ Some v → Both (f v) (g v)) →
          Both (given (slice_get (k.shown s a).variables n) NoVariable f) (given (slice_get (l.shown t b).variables n) NoVariable g)
      variable_both n a b f g is both =
          subst (λ (o : Option Shown). Both (given (slice_get (k.shown s a).variables n) NoVariable f) (given o NoVariable g))
          (ap (λ (x : walk.Activation). slice_get x.variables n) (alike.shown s t a b same is))
          (given_both NoVariable (slice_get (k.shown s a).variables n) f g both)

      -- a cursor stays where it is, while the programs change
      cursor_stays : (s' : S) (t' : T) (x : Option A) (y : Option B) → StayAlike Same Is GoesOn s t s' t' → BothAre Same Is GoesOn s t x y → BothAre Same Is GoesOn s' t' x y
      cursor_stays s' t' (Some a) (Some b) stay is = stay.each a b is
      cursor_stays s' t' None None stay is = tt
      cursor_stays s' t' (Some a) None stay is = absurd is
      cursor_stays s' t' None (Some b) stay is = absurd is

      set_both : (c : Cursor A) (d : Cursor B) (n value : ℕ) (a : A) (b : B) → CursorsAlike Same Is GoesOn s t c d → Is s t a b → (v : Shown) →
          slice_get (k.shown s a).variables n ≡ Some v →
          Both (provided (not v.invariant) InvariantVariable
          (given v.value DeadVariable (λ old. provided (nat_lt value (2 ^ v.width)) DoesNotFit (says ok_line c (k.with_variable s a n value)))))
          (provided (not v.invariant) InvariantVariable
          (given v.value DeadVariable (λ old. provided (nat_lt value (2 ^ v.width)) DoesNotFit (says ok_line d (l.with_variable t b n value)))))
      set_both c d n value a b cursors is v there =
          provided_both (not v.invariant) InvariantVariable _ _ (λ variant.
          given_both DeadVariable v.value _ _ (λ old live.
          provided_both (nat_lt value (2 ^ v.width)) DoesNotFit _ _ (λ fits.
          let after = alike.set s t a b n value v old same is there live (less_than value (2 ^ v.width) fits) in
          (refl, (after.same, cursor_stays _ _ c.activation d.activation after cursors)))))

      poke_both : (c : Cursor A) (d : Cursor B) (x : Option S) (y : Option T) → CursorsAlike Same Is GoesOn s t c d → ChangesAlike Same Is GoesOn s t x y →
          Both (given x NoPlace (says ok_line c)) (given y NoPlace (says ok_line d))
      poke_both c d (Some s') (Some t') cursors changes = (refl, (changes.same, cursor_stays s' t' c.activation d.activation changes cursors))
      poke_both c d None None cursors changes = refl
      poke_both c d (Some s') None cursors changes = absurd changes
      poke_both c d None (Some t') cursors changes = absurd changes

      resumed_both : (e : Option (Exit R)) (f : Option (Exit Q)) (values : List ℕ) → ExitsAlike Same Is GoesOn e f → Both (client.resumed e values) (client.resumed f values)
      resumed_both (Some e) (Some f) values exits =
          subst (λ (widths : List _). Both (client.resumed (Some e) values)
          (provided (length widths == length values) OtherCount (provided (all_fit widths values) DoesNotFit (Ok record { text = resume_line; after = client.Resumes (f.resumed values) }))))
          exits.0
          (provided_both (length e.widths == length values) OtherCount _ _ (λ count.
          provided_both (all_fit e.widths values) DoesNotFit _ _ (λ fit. (refl, exits.1 values (grind (arith, nat_tests)) fit))))
      resumed_both None None values exits = refl
      resumed_both (Some e) None values exits = absurd exits
      resumed_both None (Some f) values exits = absurd exits

      cut_step : (e : Option (Exit R)) (f : Option (Exit Q)) (values : List ℕ) (more : Asked A S R) (others : Asked B T Q) → ExitsAlike Same Is GoesOn e f → Both more others →
          Both (elim e as (λ _. Asked A S R) [ Some e ↦ client.resumed (Some e) values | None ↦ more ]) (elim f as (λ _. Asked B T Q) [ Some f ↦ client.resumed (Some f) values | None ↦ others ])
      cut_step (Some e) (Some f) values more others exits both = resumed_both (Some e) (Some f) values exits
      cut_step None None values more others exits both = both
      cut_step (Some e) None values more others exits both = absurd exits
      cut_step None (Some f) values more others exits both = absurd exits

      cut_both : (to : ℕ) (values : List ℕ) (x y : Option Break) (xs : List A) (ys : List B) → x ≡ None → y ≡ None → AllZip (Is s t) xs ys →
          Both (client.cut k s to values x xs) (client.cut l t to values y ys)
      cut_both to values x y [] [] whole also each = past_both s t NoCut x y whole also
      cut_both to values x y (a ∷ xs) (b ∷ ys) whole also each =
          cut_step (k.cut_exit s a to) (l.cut_exit t b to) values _ _ (alike.cut s t a b to same each.0) (cut_both to values x y xs ys whole also each.1)
      cut_both to values x y [] (b ∷ ys) whole also each = absurd each
      cut_both to values x y (a ∷ xs) [] whole also each = absurd each

      pub asked_both : (yielded : List ℕ) (c : Cursor A) (d : Cursor B) (command : Command) → CursorsAlike Same Is GoesOn s t c d →
          Both (asked k yielded c s command) (asked l yielded d t command)
      asked_both yielded c d ListAll cursors = listed_both c d (k.chain s) (l.chain t) cursors (alike.chain s t same)
      asked_both yielded c d Youngest cursors = at_first_both s t (k.chain s) (l.chain t) _ _ (alike.chain s t same) (λ a b older others at there is. stands_both a b is)
      asked_both yielded c d Next cursors = cursor_both s t c.activation d.activation _ _ cursors (λ a b at there is.
          at_first_both s t (k.older s a) (l.older t b) _ _ (alike.older s t a b same is) (λ a b older others at there is. stands_both a b is))
      asked_both yielded c d (Desc token) cursors = cursor_both s t c.activation d.activation _ _ cursors (λ a b at there is.
          says_both (descriptor_line (client.descriptor k s token a)) (descriptor_line (client.descriptor l t token b)) c d (ap descriptor_line (descriptor_both token a b is)) cursors)
      asked_both yielded c d (Seek token value) cursors = then_both (number_given yielded value) _ _ (λ v. cursor_both s t c.activation d.activation _ _ cursors (λ a b at there is.
          let older = alike.older s t a b same is in
          sought_both token v (k.older s a).broken (l.older t b).broken (a ∷ (k.older s a).activations) (b ∷ (l.older t b).activations) older.whole older.also (is, older.each)))
      asked_both yielded c d (Var n) cursors = cursor_both s t c.activation d.activation _ _ cursors (λ a b at there is.
          variable_both n a b _ _ is (λ v there. says_both (var_line n v.value) (var_line n v.value) c d refl cursors))
      asked_both yielded c d (Set n value) cursors = then_both (number_given yielded value) _ _ (λ v. cursor_both s t c.activation d.activation _ _ cursors (λ a b at there is.
          variable_both n a b _ _ is (λ shown here. set_both c d n v a b cursors is shown here)))
      asked_both yielded c d (Poke name offset value) cursors = then_both (number_given yielded value) _ _ (λ v.
          poke_both c d (k.with_data s name offset (bytes_of 8 v)) (l.with_data t name offset (bytes_of 8 v)) cursors
          (alike.poked s t name offset (bytes_of 8 v) (bytes_of_number 8 v).1 same))
      asked_both yielded c d (Return exit values) cursors = then_both (numbers_given yielded values) _ _ (λ vs.
          at_first_both s t (k.running s) (l.running t) _ _ (alike.running s t same) (λ a b older others at there is.
          resumed_both (k.return_exit s a exit) (l.return_exit t b exit) vs (alike.returned s t a b older others exit same is at there)))
      asked_both yielded c d (Unwind exit values) cursors = then_both (numbers_given yielded values) _ _ (λ vs. cursor_both s t c.activation d.activation _ _ cursors (λ a b at there is.
          resumed_both (k.unwind_exit s a exit) (l.unwind_exit t b exit) vs (alike.unwound s t a b exit same is)))
      asked_both yielded c d (Cut to values) cursors = then_both (number_given yielded to) _ _ (λ v. then_both (numbers_given yielded values) _ _ (λ vs.
          let chains = alike.running s t same in
          cut_both v vs (k.running s).broken (l.running t).broken (k.running s).activations (l.running t).activations chains.whole chains.also chains.each))
      asked_both yielded c d Stop cursors = (refl, tt)

    -- ---- all commands of an answer

    abbrev Answered : Answer S R → Answer T Q → Type 0
    Answered x y = AnswersAlike Same Is GoesOn x y

    abbrev Follow : List ℕ → List Command → Type 0
    Follow yielded commands = (text : List ℕ) (s : S) (t : T) (c : Cursor A) (d : Cursor B) → Same s t → CursorsAlike Same Is GoesOn s t c d →
        Answered (answer_of k yielded text c s commands) (answer_of l yielded text d t commands)

    abbrev behind : {A S R : Type 0} → Askable A S R → List ℕ → List ℕ → S → List Command → Reply A S R → Answer S R
    behind k yielded text s commands r = elim r.after [
      | client.Goes cursor after ↦ answer_of k yielded (text ++ r.text) cursor after commands
      | client.Resumes on ↦ record { text = text ++ r.text; left = client.Running on }
      | client.Stops ↦ record { text = text ++ r.text; left = client.Stopped s }
      | client.Tears b ↦ record { text = text ++ r.text; left = client.Torn b s }
    ]

    goes_on : (yielded text more others : List ℕ) (commands : List Command) (s : S) (t : T) (x : client.After A S R) (y : client.After B T Q) → Same s t → Follow yielded commands →
        more ≡ others → AskedAlike Same Is GoesOn (Ok record { text = more; after = x }) (Ok record { text = others; after = y }) →
        Answered (behind k yielded text s commands record { text = more; after = x }) (behind l yielded text t commands record { text = others; after = y })
    goes_on yielded text more others commands s t (client.Goes c s') (client.Goes d t') same follow is both =
        subst (λ (w : List ℕ). Answered (answer_of k yielded (text ++ more) c s' commands) (answer_of l yielded (text ++ w) d t' commands)) is
        (follow (text ++ more) s' t' c d both.1.0 both.1.1)
    goes_on yielded text more others commands s t (client.Resumes r) (client.Resumes q) same follow is both = record { text = ap (λ (w : List ℕ). text ++ w) is; left = both.1 }
    goes_on yielded text more others commands s t client.Stops client.Stops same follow is both = record { text = ap (λ (w : List ℕ). text ++ w) is; left = same }
    goes_on yielded text more others commands s t (client.Goes c s') (client.Resumes q) same follow is both = absurd both.1
    goes_on yielded text more others commands s t (client.Goes c s') client.Stops same follow is both = absurd both.1
    goes_on yielded text more others commands s t (client.Goes c s') (client.Tears b) same follow is both = absurd both.1
    goes_on yielded text more others commands s t (client.Resumes r) (client.Goes d t') same follow is both = absurd both.1
    goes_on yielded text more others commands s t (client.Resumes r) client.Stops same follow is both = absurd both.1
    goes_on yielded text more others commands s t (client.Resumes r) (client.Tears b) same follow is both = absurd both.1
    goes_on yielded text more others commands s t client.Stops (client.Goes d t') same follow is both = absurd both.1
    goes_on yielded text more others commands s t client.Stops (client.Resumes q) same follow is both = absurd both.1
    goes_on yielded text more others commands s t client.Stops (client.Tears b) same follow is both = absurd both.1
    goes_on yielded text more others commands s t (client.Tears b) y same follow is both = absurd both.1

    replied : (yielded text : List ℕ) (commands : List Command) (s : S) (t : T) (c : Cursor A) (d : Cursor B) (x : Asked A S R) (y : Asked B T Q) → Same s t →
        CursorsAlike Same Is GoesOn s t c d → Follow yielded commands → Both x y →
        Answered (behind k yielded text s commands (elim x as (λ _. Reply A S R) [ Ok r ↦ r | Err refusal ↦ record { text = refused_line refusal; after = client.Goes c s } ]))
        (behind l yielded text t commands (elim y as (λ _. Reply B T Q) [ Ok r ↦ r | Err refusal ↦ record { text = refused_line refusal; after = client.Goes d t } ]))
    replied yielded text commands s t c d (Ok r) (Ok q) same cursors follow both = goes_on yielded text r.text q.text commands s t r.after q.after same follow both.0 both
    replied yielded text commands s t c d (Err e) (Err f) same cursors follow both =
        subst (λ (g : Rule). Answered (answer_of k yielded (text ++ refused_line e) c s commands) (answer_of l yielded (text ++ refused_line g) d t commands)) both
        (follow (text ++ refused_line e) s t c d same cursors)
    replied yielded text commands s t c d (Ok r) (Err f) same cursors follow both = absurd both
    replied yielded text commands s t c d (Err e) (Ok q) same cursors follow both = absurd both

    answers_both : (yielded : List ℕ) (commands : List Command) → Follow yielded commands
    answers_both yielded [] text s t c d same cursors = record { text = refl; left = same }
    answers_both yielded (command ∷ commands) text s t c d same cursors =
        replied yielded text commands s t c d (asked k yielded c s command) (asked l yielded d t command) same cursors (answers_both yielded commands)
        (asked_both s t same yielded c d command cursors)

    youngest_both : (s : S) (t : T) (xs : List A) (ys : List B) (x y : Option Break) → AllZip (Is s t) xs ys →
        CursorsAlike Same Is GoesOn s t (at_youngest record { activations = xs; broken = x }) (at_youngest record { activations = ys; broken = y })
    youngest_both s t [] [] x y each = tt
    youngest_both s t (a ∷ xs) (b ∷ ys) x y each = each.0
    youngest_both s t [] (b ∷ ys) x y each = absurd each
    youngest_both s t (a ∷ xs) [] x y each = absurd each

    answer_both : (script : Script) (yielded : List ℕ) (s : S) (t : T) → Same s t → Answered (answer_to k script yielded s) (answer_to l script yielded t)
    answer_both script yielded s t same =
        let chains = alike.running s t same in
        answers_both yielded (commands_for yielded script) [] s t (at_youngest (k.running s)) (at_youngest (l.running t)) same
        (youngest_both s t (k.running s).activations (l.running t).activations (k.running s).broken (l.running t).broken chains.each)

-- programs that are asked alike answer a yield alike
pub answers_are_alike : {A S R B T Q : Type 0} (Same : S → T → Type 0) (Is : S → T → A → B → Type 0) (GoesOn : R → Q → Type 0) (k : Askable A S R) (l : Askable B T Q) →
    AreAlike Same Is GoesOn k l → (script : Script) (yielded : List ℕ) (s : S) (t : T) → Same s t →
    AnswersAlike Same Is GoesOn (answer_to k script yielded s) (answer_to l script yielded t)
answers_are_alike Same Is GoesOn k l alike script yielded s t same = answer_both Same Is GoesOn k l alike script yielded s t same
