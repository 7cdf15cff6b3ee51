-- What a parse of the laboratory's command has found: each option has a value that passes.
use Rattle.laboratory.proofs.Names.{◌≡◌, ◌≤◌, ◌<◌, ◌&&◌, ◌∙◌, ℕ, zero, suc, Bool, true, false, List, [], ◌∷◌, map, length, Option, Some, None, is_some, refl, sym, ap, subst, inl, inr, arith, codes, not, ◌==◌, if◌then◌else◌, All, slice_index_or, App, app_of, has_plain_fields, Rule, Text, is_empty, is_free_arg, is_simple_arg, rule_of, first_value, found_of, one_text, Command, ValueParser, ArgMatches, required_reads, IsGiven, command, needed, numbers}
use Rattle.std.specs.Str.{bytes_eq}
use Rattle.std.proofs.Math.Dec.{eqb-suc-zero}
use Rattle.std.proofs.lemmas.Slice.Eq.{bytes_eq-Decides}
use Rattle.std.proofs.lemmas.List.Elements.{All-cons, All-nil}
use Rattle.clap.specs.Facts.{args_of, least_values, unwrap_or_range}
use Rattle.clap.specs.Built.{IsAuto, IsParsedFrom, IsPlain, IsPlainArg}
use Rattle.clap.specs.Values.{Accepts, read_as, reading_of}
use Rattle.clap.specs.declared.builder.arg.Arg.{Arg}
use Rattle.clap.specs.declared.builder.command.Command.TheViews.{out-Command}
use Rattle.clap.specs.declared.builder.value_parser.ValueParser.TheVariants as value
use Rattle.clap.proofs.CallerLemmas.{required_has_value}

-- ---- tests

and_left : (p q : Bool) → (p && q) ≡ true → p ≡ true
and_left true q h = refl
and_left false q h = cc

and_right : (p q : Bool) → (p && q) ≡ true → q ≡ true
and_right true q h = h
and_right false q h = cc

not_true : (p : Bool) → not p ≡ true → p ≡ false
not_true true h = cc
not_true false h = refl

not_some : {X : Type 0} (o : Option X) → not (is_some o) ≡ true → o ≡ None
not_some None h = refl
not_some (Some x) h = cc

empty_nil : {X : Type 0} (xs : List X) → is_empty xs ≡ true → xs ≡ []
empty_nil [] h = refl
empty_nil (x ∷ xs) h =
    let bad : false ≡ true = sym (eqb-suc-zero (length xs)) ∙ h in
    cc

fourth_of : (p q r s t : Bool) → (p && (q && (r && (s && t)))) ≡ true → s ≡ true
fourth_of p q r s t h = and_left s t (and_right r (s && t) (and_right q (r && (s && t)) (and_right p (q && (r && (s && t))) h)))

-- ---- the four arguments

cons_of : {A B : Type 0} (f : A → B) (xs : List A) (y : B) (ys : List B) → map f xs ≡ y ∷ ys → (x : A) × (rest : List A) × (xs ≡ x ∷ rest) × (f x ≡ y) × (map f rest ≡ ys)
cons_of f [] y ys e = cc
cons_of f (x ∷ xs) y ys e = (x, xs, refl, cc, cc)

nil_of : {A B : Type 0} (f : A → B) (xs : List A) → map f xs ≡ [] → xs ≡ []
nil_of f [] e = refl
nil_of f (x ∷ xs) e = cc

record Four (xs : List Arg) : Type 0 where
  first : Arg
  second : Arg
  third : Arg
  fourth : Arg
  list : xs ≡ first ∷ second ∷ third ∷ fourth ∷ []
  pages : rule_of first ≡ needed (codes "pages") (numbers 1 1048576)
  lose : rule_of second ≡ needed (codes "lose") (numbers 0 1000000)
  stop : rule_of third ≡ needed (codes "stop") (numbers 0 1048575)
  words : rule_of fourth ≡ needed (codes "words") value.String

four : (xs : List Arg) → map rule_of xs ≡ command.top.rules → Four xs
four xs e =
    let a = cons_of rule_of xs _ _ e in
    let b = cons_of rule_of a.1 _ _ a.4 in
    let c = cons_of rule_of b.1 _ _ b.4 in
    let d = cons_of rule_of c.1 _ _ c.4 in
    record {
      first = a.0;
      second = b.0;
      third = c.0;
      fourth = d.0;
      list = a.2 ∙ ap (λ (l : List Arg). a.0 ∷ l) (b.2 ∙ ap (λ (l : List Arg). b.0 ∷ l) (c.2 ∙ ap (λ (l : List Arg). c.0 ∷ l) (d.2 ∙ ap (λ (l : List Arg). d.0 ∷ l) (nil_of rule_of d.1 d.4))));
      pages = a.3;
      lose = b.3;
      stop = c.3;
      words = d.3;
    }

-- ---- their names begin with four letters

abbrev letter : ℕ → ℕ
letter k = slice_index_or (112 ∷ 108 ∷ 115 ∷ 119 ∷ []) k 0

abbrev place : ℕ → ℕ
place n = if n == 112 then 0 else (if n == 108 then 1 else (if n == 115 then 2 else 3))

place_back : (k : ℕ) → k < 4 → place (letter k) ≡ k
place_back zero h = refl
place_back (suc zero) h = refl
place_back (suc (suc zero)) h = refl
place_back (suc (suc (suc zero))) h = refl
place_back (suc (suc (suc (suc k)))) h = absurd (omega arith)

letter_low : (k : ℕ) → k < 4 → 105 ≤ letter k
letter_low zero h = omega arith
letter_low (suc zero) h = omega arith
letter_low (suc (suc zero)) h = omega arith
letter_low (suc (suc (suc zero))) h = omega arith
letter_low (suc (suc (suc (suc k)))) h = absurd (omega arith)

letter_not_v : (k : ℕ) → k < 4 → letter k ≡ 118 → ⊥
letter_not_v zero h e = absurd (omega arith)
letter_not_v (suc zero) h e = absurd (omega arith)
letter_not_v (suc (suc zero)) h e = absurd (omega arith)
letter_not_v (suc (suc (suc zero))) h e = absurd (omega arith)
letter_not_v (suc (suc (suc (suc k)))) h e = absurd (omega arith)

abbrev first_letter : Text → ℕ
first_letter text = slice_index_or text 0 0

name_letter : (xs : List Arg) (f : Four xs) (k : ℕ) (d : Arg) → k < 4 → first_letter (slice_index_or xs k d).id.now ≡ letter k
name_letter xs f k d low = subst (λ (l : List Arg). first_letter (slice_index_or l k d).id.now ≡ letter k) (sym f.list) (go k low)
  where
    go : (k : ℕ) → k < 4 → first_letter (slice_index_or (f.first ∷ f.second ∷ f.third ∷ f.fourth ∷ []) k d).id.now ≡ letter k
    go zero h = ap (λ (r : Rule). first_letter r.id) f.pages
    go (suc zero) h = ap (λ (r : Rule). first_letter r.id) f.lose
    go (suc (suc zero)) h = ap (λ (r : Rule). first_letter r.id) f.stop
    go (suc (suc (suc zero))) h = ap (λ (r : Rule). first_letter r.id) f.words
    go (suc (suc (suc (suc k)))) h = absurd (omega arith)

-- ---- what a parse needs of the command

plain_arg : (a : Arg) (name : Text) (q : ValueParser) → rule_of a ≡ needed name q → IsPlainArg a
plain_arg a name q rule =
    let simple : is_simple_arg a ≡ true = ap (λ (r : Rule). r.is_simple) rule in
    let free : is_free_arg a ≡ true = ap (λ (r : Rule). r.is_free) rule in (
      not_true _ (and_left _ _ free),
      empty_nil _ (and_left _ _ (and_right _ _ free)),
      empty_nil _ (and_left _ _ simple),
      empty_nil _ (and_left _ _ (and_right _ _ (and_right _ _ simple))),
    )

no_delimiter : (a : Arg) (name : Text) (q : ValueParser) → rule_of a ≡ needed name q → a.val_delim ≡ None
no_delimiter a name q rule =
    let simple : is_simple_arg a ≡ true = ap (λ (r : Rule). r.is_simple) rule in
    not_some a.val_delim (fourth_of (is_empty a.overrides.items) (is_empty a.default_vals_ifs.items) (is_empty a.groups.items) (not (is_some a.val_delim)) _ simple)

one_value : (a : Arg) (name : Text) (q : ValueParser) → rule_of a ≡ needed name q → 1 ≤ least_values a
one_value a name q rule =
    let one : least_values a ≡ 1 = ap (λ (r : Rule). (unwrap_or_range r.range).start_inclusive) rule in
    omega (arith, one)

record Ready (c : Command) : Type 0 where
  args : Four (args_of c)
  plain : IsPlain c
  globals : (out-Command c).has_globals ≡ false
  negates : (out-Command c).subcommand_negates_reqs ≡ false

ready : (c : Command) → app_of c ≡ command → Ready c
ready c e =
    let f = four (args_of c) (ap (λ (a : App). a.top.rules) e) in
    let fields : has_plain_fields (out-Command c) ≡ true = ap (λ (a : App). a.top.is_plain) e in
    record {
      args = f;
      plain = (
        subst (All IsPlainArg) (sym f.list)
            (All-cons IsPlainArg f.first (f.second ∷ f.third ∷ f.fourth ∷ []) (plain_arg f.first _ _ f.pages)
            (All-cons IsPlainArg f.second (f.third ∷ f.fourth ∷ []) (plain_arg f.second _ _ f.lose)
            (All-cons IsPlainArg f.third (f.fourth ∷ []) (plain_arg f.third _ _ f.stop)
            (All-cons IsPlainArg f.fourth [] (plain_arg f.fourth _ _ f.words) (All-nil IsPlainArg))))),
        empty_nil _ (and_left _ _ fields),
      );
      globals = not_true _ (and_left _ _ (and_right _ _ (and_right _ _ fields)));
      negates = ap (λ (a : App). a.top.subcommand_negates_reqs) e;
    }

module _ (c : Command) (m : ArgMatches) (e : app_of c ≡ command) (p : IsParsedFrom c m) where
  r : Ready c
  r = ready c e

  four_args : length (args_of c) ≡ 4
  four_args = ap length r.args.list

  only : (k : ℕ) (d : Arg) → k < 4 → (j : ℕ) (x : Arg) → j < length (args_of c)
      → bytes_eq (slice_index_or (args_of c) j x).id.now (slice_index_or (args_of c) k d).id.now ≡ true → j ≡ k
  only k d low j x within same =
      let within4 : j < 4 = subst (λ n. j < n) four_args within in
      let names = (bytes_eq-Decides (slice_index_or (args_of c) j x).id.now (slice_index_or (args_of c) k d).id.now).0 same in
      let letters : letter j ≡ letter k = sym (name_letter _ r.args j x within4) ∙ (ap first_letter names ∙ name_letter _ r.args k d low) in
      sym (place_back j within4) ∙ (ap place letters ∙ place_back k low)

  named : (k : ℕ) (d : Arg) → k < 4 → (slice_index_or (args_of c) k d).id.now ≡ [] → ⊥
  named k d low none =
      let zero_is : 0 ≡ letter k = sym (ap first_letter none) ∙ name_letter _ r.args k d low in
      absurd (omega (arith, zero_is, letter_low k low))

  own : (k : ℕ) (d : Arg) → k < 4 → IsAuto (slice_index_or (args_of c) k d) → ⊥
  own k d low auto = elim auto [
    | inl help ↦
        let h : 104 ≡ letter k = sym (ap first_letter help) ∙ name_letter _ r.args k d low in
        absurd (omega (arith, h, letter_low k low))
    | inr version ↦
        letter_not_v k low (sym (name_letter _ r.args k d low) ∙ ap first_letter version)
  ]

  -- an option has a value that passes, and reads as its parser says
  read_of : (k : ℕ) (d : Arg) (name : Text) (q : ValueParser) → k < 4 → rule_of (slice_index_or (args_of c) k d) ≡ needed name q
      → (t : Text) × (one_text (found_of m) name ≡ Some (read_as (reading_of q) t)) × Accepts false q t
  read_of k d name q low rule =
      let x = slice_index_or (args_of c) k d in
      let id : x.id.now ≡ name = ap (λ (w : Rule). w.id) rule in
      let case : x.ignore_case ≡ false = ap (λ (w : Rule). w.ignore_case) rule in
      let got = required_reads c m p r.plain r.globals r.negates k d (subst (λ n. k < n) (sym four_args) low)
      (ap (λ (w : Rule). w.required) rule) (ap (λ (w : Rule). w.action) rule) (no_delimiter x name q rule) (one_value x name q rule)
      (only k d low) (named k d low) (own k d low) q (ap (λ (w : Rule). w.parser) rule) in (
        got.0,
        subst (λ (n : Text). one_text (found_of m) n ≡ Some (read_as (reading_of q) got.0)) id got.1,
        subst (λ (b : Bool). Accepts b q got.0) case got.2,
      )

  -- it has a value
  value_of : (k : ℕ) (d : Arg) (name : Text) (q : ValueParser) → k < 4 → rule_of (slice_index_or (args_of c) k d) ≡ needed name q
      → is_some (first_value (found_of m) name) ≡ true
  value_of k d name q low rule =
      let x = slice_index_or (args_of c) k d in
      let id : x.id.now ≡ name = ap (λ (w : Rule). w.id) rule in
      let got = required_has_value c m p r.plain r.globals r.negates k d (subst (λ n. k < n) (sym four_args) low)
      (ap (λ (w : Rule). w.required) rule) (ap (λ (w : Rule). w.action) rule) (no_delimiter x name q rule) (one_value x name q rule)
      (only k d low) (named k d low) (own k d low) in
      subst (λ (n : Text). is_some (first_value (found_of m) n) ≡ true) id got

  rule_at : (k : ℕ) (d : Arg) (q : Rule) → rule_of (slice_index_or (r.args.first ∷ r.args.second ∷ r.args.third ∷ r.args.fourth ∷ []) k d) ≡ q
      → rule_of (slice_index_or (args_of c) k d) ≡ q
  rule_at k d q h = subst (λ (l : List Arg). rule_of (slice_index_or l k d) ≡ q) (sym r.args.list) h

  pub given : IsGiven (found_of m)
  given =
      let d = r.args.first in
      let pages = read_of 0 d _ _ (omega arith) (rule_at 0 d _ r.args.pages) in
      let lose = read_of 1 d _ _ (omega arith) (rule_at 1 d _ r.args.lose) in
      let stop = read_of 2 d _ _ (omega arith) (rule_at 2 d _ r.args.stop) in
      record {
        pages = record { text = pages.0; read = pages.1; passed = pages.2 };
        lose = record { text = lose.0; read = lose.1; passed = lose.2 };
        stop = record { text = stop.0; read = stop.1; passed = stop.2 };
        words = value_of 3 d _ _ (omega arith) (rule_at 3 d _ r.args.words);
      }
