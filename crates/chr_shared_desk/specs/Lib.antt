pub mod SharedReplies
