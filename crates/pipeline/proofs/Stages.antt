-- A four-stage pipeline over any instructions, operands, outcomes and files: what is in it after each cycle of any stream (`held_on`), and that two cycles settle it,
-- whatever it held (`settles`). Carried by one law of the stages: a forwarded operand works as one that is read after the write. Nothing here knows a word, a
-- register or a line number.
-- Assumes nothing.
use Prim.Native.Nat.{ℕ, zero, suc}
use mathlib.Core.Path.{◌≡◌, refl, ap, ◌∙◌}

-- a latch: empty, or holding something
pub data Slot (A : Type 0) : Type 0 where
  empty : Slot A
  holds : A → Slot A

-- what the stages do: ID reads operands, EX takes newer ones from WB and works, WB commits
pub record Stages : Type 1 where
  pub Instr : Type 0
  pub Ops : Type 0
  pub Out : Type 0
  pub File : Type 0
  pub read : Instr → File → Ops
  pub forward : Instr → Out → Instr → Ops → Ops
  pub work : Instr → Ops → Out
  pub commit : Instr → Out → File → File

pub record Latched (I B : Type 0) : Type 0 where
  pub instr : I
  pub rest : B

pub record Pipe (M : Stages) : Type 0 where
  pub file : M.File
  pub ifid : Slot M.Instr
  pub idex : Slot (Latched M.Instr M.Ops)
  pub exwb : Slot (Latched M.Instr M.Out)

-- what the instruction that is forwarded from and the file have to be for the law to hold, and that writing keeps the file so
pub record Lawful (M : Stages) (Good : M.Instr → Type 0) (Ok : M.File → Type 0) : Type 0 where
  pub keeps : (j : M.Instr) (o : M.Out) (f : M.File) → Ok f → Ok (M.commit j o f)
  pub forwards : (j i : M.Instr) (o : M.Out) (f : M.File) → Good j → Ok f
      → M.work i (M.forward j o i (M.read i f)) ≡ M.work i (M.read i (M.commit j o f))

module _ (M : Stages) where
  -- ---- one cycle

  abbrev pub through_wb : Slot (Latched M.Instr M.Out) → M.File → M.File
  through_wb empty f = f
  through_wb (holds x) f = M.commit x.instr x.rest f

  abbrev pub newest : Slot (Latched M.Instr M.Out) → M.Instr → M.Ops → M.Ops
  newest empty i o = o
  newest (holds x) i o = M.forward x.instr x.rest i o

  abbrev pub through_ex : Slot (Latched M.Instr M.Out) → Slot (Latched M.Instr M.Ops) → Slot (Latched M.Instr M.Out)
  through_ex wb empty = empty
  through_ex wb (holds y) = holds (record { instr = y.instr; rest = M.work y.instr (newest wb y.instr y.rest) })

  abbrev pub through_id : Slot M.Instr → M.File → Slot (Latched M.Instr M.Ops)
  through_id empty f = empty
  through_id (holds i) f = holds (record { instr = i; rest = M.read i f })

  -- a cycle in which IF delivers `new`
  abbrev pub cycled : Slot M.Instr → Pipe M → Pipe M
  cycled new s = record {
    file = through_wb s.exwb s.file;
    ifid = new;
    idex = through_id s.ifid (through_wb s.exwb s.file);
    exwb = through_ex s.exwb s.idex;
  }

  -- ---- one after another

  abbrev pub outcome : M.Instr → M.File → M.Out
  outcome i f = M.work i (M.read i f)

  abbrev pub executed : Slot M.Instr → M.File → M.File
  executed empty f = f
  executed (holds i) f = M.commit i (outcome i f) f

  -- the first k of a stream of instructions, some places of which may be empty
  abbrev pub executed_all : (ℕ → Slot M.Instr) → ℕ → M.File → M.File
  executed_all line zero f = f
  executed_all line (suc k) f = executed (line k) (executed_all line k f)

  -- t cycles in which IF delivers a stream
  abbrev pub cycled_all : (ℕ → Slot M.Instr) → ℕ → Pipe M → Pipe M
  cycled_all line zero s = s
  cycled_all line (suc t) s = cycled (line t) (cycled_all line t s)

  -- a stream behind what EX/WB, ID/EX and IF/ID hold: what reaches WB, one a cycle
  abbrev pub behind : Slot M.Instr → Slot M.Instr → Slot M.Instr → (ℕ → Slot M.Instr) → ℕ → Slot M.Instr
  behind x y z line zero = x
  behind x y z line (suc zero) = y
  behind x y z line (suc (suc zero)) = z
  behind x y z line (suc (suc (suc k))) = line k

  -- ---- both

  abbrev pub done : Slot M.Instr → M.File → Slot (Latched M.Instr M.Out)
  done empty f = empty
  done (holds i) f = holds (record { instr = i; rest = outcome i f })

  -- the pipeline with x in EX/WB, y in ID/EX and z in IF/ID: what it holds of each is told by the file
  abbrev pub holding : M.File → Slot M.Instr → Slot M.Instr → Slot M.Instr → Pipe M
  holding f x y z = record { file = f; ifid = z; idex = through_id y f; exwb = done x f }

  -- a latch with a good instruction, or none
  abbrev pub GoodIn : (M.Instr → Type 0) → Slot M.Instr → Type 0
  GoodIn Good empty = Unit {0}
  GoodIn Good (holds i) = Good i

  -- the instruction of a latch, without what is latched with it
  abbrev pub instr_in : {B : Type 0} → Slot (Latched M.Instr B) → Slot M.Instr
  instr_in empty = empty
  instr_in (holds x) = holds x.instr

  module _ (Good : M.Instr → Type 0) (Ok : M.File → Type 0) (law : Lawful M Good Ok) where
    ok_executed : (x : Slot M.Instr) (f : M.File) → Ok f → Ok (executed x f)
    ok_executed empty f k = k
    ok_executed (holds i) f k = law.keeps i (outcome i f) f k

    ok_all : (line : ℕ → Slot M.Instr) (f : M.File) → Ok f → (c : ℕ) → Ok (executed_all line c f)
    ok_all line f k zero = k
    ok_all line f k (suc c) = ok_executed (line c) (executed_all line c f) (ok_all line f k c)

    ok_written : (x : Slot (Latched M.Instr M.Out)) (f : M.File) → Ok f → Ok (through_wb x f)
    ok_written empty f k = k
    ok_written (holds x) f k = law.keeps x.instr x.rest f k

    -- ---- from a pipeline that is told by its file

    cycled_holding : (f : M.File) → Ok f → (x y z new : Slot M.Instr) → GoodIn Good x → cycled new (holding f x y z) ≡ holding (executed x f) y z new
    cycled_holding f k empty empty z new g = refl
    cycled_holding f k empty (holds i) z new g = refl
    cycled_holding f k (holds j) empty z new g = refl
    cycled_holding f k (holds j) (holds i) z new g = rw (law.forwards j i (outcome j f) f g k)

    -- it stays so: after t cycles its file has what reached WB, executed one after another
    pub held_on : (line : ℕ → Slot M.Instr) (f : M.File) → Ok f → (x y z : Slot M.Instr) → ((k : ℕ) → GoodIn Good (behind x y z line k)) → (t : ℕ)
        → (let next = behind x y z line in
        cycled_all line t (holding f x y z) ≡ holding (executed_all next t f) (next t) (next (suc t)) (next (suc (suc t))))
    held_on line f k x y z good zero = refl
    held_on line f k x y z good (suc t) =
        let next = behind x y z line in
        ap (cycled (line t)) (held_on line f k x y z good t)
        ∙ cycled_holding (executed_all next t f) (ok_all next f k t) (next t) (next (suc t)) (next (suc (suc t))) (line t) (good t)

    -- ---- from any pipeline whatsoever

    -- what EX makes of operands that were read, with what WB writes, is told by the file after that write
    worked_told : (x : Slot (Latched M.Instr M.Out)) (z : Slot M.Instr) (f : M.File) → Ok f → GoodIn Good (instr_in x)
        → through_ex x (through_id z f) ≡ done z (through_wb x f)
    worked_told empty empty f k g = refl
    worked_told empty (holds i) f k g = refl
    worked_told (holds x) empty f k g = refl
    worked_told (holds x) (holds i) f k g = rw (law.forwards x.instr i x.rest f g k)

    good_worked : (x : Slot (Latched M.Instr M.Out)) (y : Slot (Latched M.Instr M.Ops)) → GoodIn Good (instr_in y) → GoodIn Good (instr_in (through_ex x y))
    good_worked x empty g = g
    good_worked x (holds y) g = g

    -- after two cycles every value that is latched was read, or worked, since: all that the pipeline holds is told by its file
    pub settles : (s : Pipe M) → Ok s.file → GoodIn Good (instr_in s.idex) → (a b : Slot M.Instr)
        → cycled b (cycled a s) ≡ holding (cycled b (cycled a s)).file s.ifid a b
    settles s k g a b =
        let t = cycled a s in
        rw (worked_told t.exwb s.ifid t.file (ok_written s.exwb s.file k) (good_worked s.exwb s.idex g))
