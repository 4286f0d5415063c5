pub mod OneTyping
