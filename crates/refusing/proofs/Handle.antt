-- What the proofs of `allocate` and `deallocate` share: names that they cite, and the handle on which both are called.
pub use Rattle.std.proofs.Common.{◌≡◌, ℕ, ◌+◌, ◌^◌, ◌<◌, Bool, true, false, List, [], ◌∷◌, Ok, Err, refl, w64, Bor}
pub use seplogic.Ra.Ura.{Ura}
pub use mir.Syntax.{Ty, Args, Fn, a_type, dnil, dcons}
pub use mir.Val.{Val, vbool, vint, vptr, vunit}
pub use mir.MapTy.{inst_fn}
pub use base.Logic.{SProp, ent, id⊢, never_e}
pub use base.Fml.{Lft, Share, ftrue, flft, ffalse, fsep, froom}
pub use prog.Memory.{Memory, size, align, capped, up}
pub use prog.Routine.{Routine}
pub use prog.Wp.{WpFn, Tables}
pub use types.Logic.{Logic}
pub use contract.BorrowLft.{◌⊑◌, ⊑_trans}
pub use contract.Monad.{Fun, fact}
pub use contract.Running.{tables}
unfoldable pub use contract.Running.{tables_of}
pub use sound.WpLaws.{fm_of, WpFn-mono}
pub use types.Run.{stop, fld, addr, no_more, and_then, lit, first, branches, skips, exec, returns, returns_within, enter, of_opd, unit_lit}
pub use denote.Exit.{yes}
pub use denote.RattleType.{owns}
pub use denote.Ref.{shr_vals}
pub use denote.Opens.{unhide}
pub use denote.Param.{bounded, param}
pub use denote.Plain.{uint_vals, uint_Tells}
pub use denote.Signature.{Slot, plain, types_at}
pub use denote.Steps.{heard, nothing}
pub use denote.Triple.Clauses.{Ended, Clauses}
pub use denote.Triple.Spec.{triple_of}
pub use denote.Triple.Statement.{Triple}
pub use denote.Triple.Table.{entered, cited}
pub use denote.Triple.Walked.{Stays, stay_dropped, walk_of, ends_at, walked, Goes-dropped, walk_Meets}
pub use types.Kit.{‵, raw, ◌⊛◌, some, later, given, pick, learn, at_ret, ◌$◌, ◌∵◌, !, qed, move, keep, drop, use0, use1, use2, split, join, fsplit, fjoin, suffices, await, done, Item, by, split3, feq_i}
pub use types.ByLocal.{env, alloc_all, pass_all, free_all, look_at, get, through, sets, lands_as}
pub use denote.RawPtr.{block_ptr, Ptr, null_ptr, ptr_val, rawptr_vals, rawptr_Tells}
pub use denote.Builtin.{usize, RefOf, RawPtr}
pub use denote.Triple.Call.{calls_at}
pub use Rattle.std.proofs.alloc.Calls.{Al, α, seen, Answer, answer_val, Answer-typed, Answer-Ok, Answer-err, takes_key, Takes, at_takes, Answered, Takes-goes, Takes-gives, answers, token, gives_key, Gives, at_gives, Gives-goes, Gives-Gives}
use Rattle.refusing.specs.contracts.Refusing as wrapper

abbrev pub args : Al → Args
args Z = bounded (a_type ∷ []) (Z.row, tt) (dcons Z.d (dcons Z.drops dnil))

abbrev pub self : Al → Slot 2
self Z = RefOf (0 ∷ []) tt (plain (λ _. wrapper.the_row (param 0 Z.row))) (λ _. tt)
